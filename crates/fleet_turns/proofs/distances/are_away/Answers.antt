use Rattle.std.proofs.Common.{◌≡◌, ℕ, inl, inr, subst, arith}
use Rattle.std.proofs.lemmas.Bool.{cases_lt}
use Rattle.fleet_grid.specs.Floor.{IsFloor}
use Rattle.fleet_grid.proofs.Forms.{floor_inside}
use Rattle.fleet_turns.specs.inside.Checked.{IsAwayAt}
use Rattle.fleet_turns.proofs.distances.are_away.Goals as goal

pub loop-cell-preserved : goal.loop-cell-preserved
loop-cell-preserved g c cell less floor = elim (cases_lt cell c.loop-cell.cell) [
  | inl before ↦ c.loop-cell.invariant cell before floor
  | inr after ↦ (
      let same : c.loop-cell.cell ≡ cell = omega (arith, less, after) in
      subst (λ (k : ℕ). IsFloor c.args.grid.now k → IsAwayAt c.args.grid.now c.args.core.now c.args.away.now k) same (c.passes.ensures c.if-not-passes.false) floor)
]

pub returns : goal.returns
returns g c _ cell floor = c.loop-cell.invariant cell (omega (arith, floor_inside c.args.grid.now cell floor, c.loop-cell-test.false, c.loop-cell.auto.cell-end, c.cell_count-count.ensures.value)) floor
