-- The places up to one in doubt.
use Rattle.std.proofs.Common.{below_more, arith}
use Rattle.fleet_bridge.specs.inside.Places.{HasNoneAt}
use Rattle.fleet_bridge.proofs.Steps.{none_before, none_of_spot}
use Rattle.fleet_bridge.proofs.detours.doubt_among.Goals as goal

pub loop-at-preserved-then-not-has_bare : goal.loop-at-preserved-then-not-has_bare
loop-at-preserved-then-not-has_bare g c =
    let p = c.args.places.now in
    below_more (HasNoneAt p.grid.now p.stride) c.loop-at.at c.loop-at.invariant (c.has_bare.ensures.none c.if-not-has_bare.true)

pub loop-at-preserved : goal.loop-at-preserved
loop-at-preserved g c =
    let p = c.args.places.now in
    below_more (HasNoneAt p.grid.now p.stride) c.loop-at.at c.loop-at.invariant
    (none_of_spot p.grid.now p.stride p.list.now c.requires.laid_out.form c.requires.laid_out.padded c.loop-at.at c.spot_at-spot.result c.spot_at-spot.ensures.at c.spot_at-spot.ensures.spot c.in-Some.ensures)

pub returns-in_default : goal.returns-in_default
returns-in_default g c =
    let p = c.args.places.now in
    none_before p.grid.now p.stride p.list.now c.requires.laid_out.form c.requires.laid_out.padded c.loop-at.at c.spot_at-spot.result c.loop-at.invariant c.spot_at-spot.ensures.at c.spot_at-spot.ensures.spot

pub returns-then-looked-most : goal.returns-then-looked-most
returns-then-looked-most g c =
    let p = c.args.places.now in
    none_before p.grid.now p.stride p.list.now c.requires.laid_out.form c.requires.laid_out.padded c.loop-at.at c.spot_at-spot.result c.loop-at.invariant c.spot_at-spot.ensures.at c.spot_at-spot.ensures.spot

pub returns : goal.returns
returns g c = λ v lt. c.loop-at.invariant v (omega (arith, c.loop-at-test.false, lt))

pub has_bare-requires-clause-laid_out : goal.has_bare-requires-clause-laid_out
has_bare-requires-clause-laid_out g c = c.requires.laid_out

pub spot_at-spot-requires-clause-laid_out : goal.spot_at-spot-requires-clause-laid_out
spot_at-spot-requires-clause-laid_out g c = c.requires.laid_out

pub spot_at-spot-requires-clause-open : goal.spot_at-spot-requires-clause-open
spot_at-spot-requires-clause-open g c = c.has_bare.ensures.open c.if-not-has_bare.false

pub steps_around-requires-clause-laid_out : goal.steps_around-requires-clause-laid_out
steps_around-requires-clause-laid_out g c = c.requires.laid_out

pub steps_around-requires-clause-spot : goal.steps_around-requires-clause-spot
steps_around-requires-clause-spot g c = c.spot_at-spot.ensures.spot
