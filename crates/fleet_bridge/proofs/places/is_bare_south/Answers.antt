use Rattle.std.proofs.Common.{◌-◌, inl, inr, arith}
use Rattle.fleet_bridge.proofs.Squares.{none_south}
use Rattle.fleet_bridge.proofs.places.is_bare_south.Goals as goal

pub returns-clause-none : goal.returns-clause-none
returns-clause-none g c = λ no.
    let p = c.args.places.now in
    let before = c.requires.inside.before in
    none_south p.grid.now p.stride p.list.now c.requires.laid_out.form c.requires.laid_out.padded c.args.at (c.args.at - 1) (omega (arith, before))
    (elim (c.is_bare.ensures.none no) [
      | inl (inl from) ↦ inl (inl (c.is_floor.ensures.wall from))
      | inl (inr to) ↦ inl (inr (c.is_floor-2.ensures.wall to))
      | inr (inl one) ↦ inr (inl (c.is_square-right.ensures one))
      | inr (inr other) ↦ inr (inr (c.is_square-left.ensures other))
    ])
