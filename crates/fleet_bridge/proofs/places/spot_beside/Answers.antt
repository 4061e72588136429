-- The spot next to another.
use Rattle.std.proofs.Common.{◌≢◌, ℕ, subst, arith}
use Rattle.std.specs.Prelude.{slice_index}
use Rattle.fleet_bridge.specs.inside.Places.{place_across}
use Rattle.fleet_bridge.proofs.Steps.{across_inside, step_found, none_across}
use Rattle.fleet_bridge.proofs.places.spot_beside.Goals as goal

pub bounds-places-next : goal.bounds-places-next
bounds-places-next g c =
    let p = c.args.places.now in
    let i = across_inside p.grid.now p.stride p.list.now c.requires.laid_out.form c.requires.laid_out.padded c.args.dir c.args.spot.cell c.args.spot.place c.requires.spot.floor c.requires.spot.at in
    omega (arith, i, c.across-next.ensures.place)

pub returns-then-places-next : goal.returns-then-places-next
returns-then-places-next g c =
    let p = c.args.places.now in
    step_found p.grid.now p.stride p.list.now c.requires.laid_out.form c.requires.laid_out.padded p.width c.args.dir c.args.spot c.across-next.result c.requires.laid_out.wide c.requires.spot
    c.across-next.ensures.cell c.across-next.ensures.place c.if-places-next.true

pub returns-else-places-next : goal.returns-else-places-next
returns-else-places-next g c = λ b n.
    let p = c.args.places.now in
    let wall : slice_index p.list.now (place_across p.stride c.args.spot.place c.args.dir) ≢ 4294967295 = subst (λ (v : ℕ). slice_index p.list.now v ≢ 4294967295) c.across-next.ensures.place c.if-places-next.false in
    none_across p.grid.now p.stride p.list.now c.requires.laid_out.form c.requires.laid_out.padded c.args.dir c.args.spot.cell c.args.spot.place b c.requires.spot.at wall n

pub across-next-requires-clause-laid_out : goal.across-next-requires-clause-laid_out
across-next-requires-clause-laid_out g c = c.requires.laid_out

pub across-next-requires-clause-spot : goal.across-next-requires-clause-spot
across-next-requires-clause-spot g c = c.requires.spot
