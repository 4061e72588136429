-- One more placement.
use Rattle.std.proofs.Common.{ℕ, List, ◌++◌, take, sym, ◌∙◌, ap, arith}
use Rattle.fleet_execute.specs.Placed.{all_cells}
use Rattle.fleet_execute.proofs.Cells.{cells_more}
use Rattle.fleet_execute.proofs.placed.cells_of.Goals as goal

pub loop-time-preserved : goal.loop-time-preserved
loop-time-preserved c =
    c.in_ok-extend_from_slice.ensures.items
    ∙ (ap (λ (l : List ℕ). l ++ c.at.result.now) c.loop-time.invariant
    ∙ (ap (λ (l : List ℕ). all_cells (take c.loop-time.time c.args.places.now) ++ l) c.at.ensures ∙ sym (cells_more c.args.places.now c.loop-time.time (omega (arith, c.loop-time-test.true, c.loop-time.auto.time-end, c.len-time-end.ensures)))))
