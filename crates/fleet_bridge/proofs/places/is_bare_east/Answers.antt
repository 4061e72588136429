use Rattle.std.proofs.Common.{◌-◌, inl, inr, arith}
use Rattle.fleet_bridge.proofs.Squares.{none_east}
use Rattle.fleet_bridge.proofs.places.is_bare_east.Goals as goal

pub returns-clause-none : goal.returns-clause-none
returns-clause-none g c = λ no.
    let p = c.args.places.now in
    let row = c.requires.inside.row in
    none_east p.grid.now p.stride p.list.now c.requires.laid_out.form c.requires.laid_out.padded c.args.at (c.args.at - p.stride) (omega (arith, row))
    (elim (c.is_bare.ensures.none no) [
      | inl (inl from) ↦ inl (inl (c.is_floor.ensures.wall from))
      | inl (inr to) ↦ inl (inr (c.is_floor-2.ensures.wall to))
      | inr (inl one) ↦ inr (inl (c.is_square-below.ensures one))
      | inr (inr other) ↦ inr (inr (c.is_square-above.ensures other))
    ])
