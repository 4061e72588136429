use Rattle.std.proofs.Common.{arith}
use borrow.Author.Count.{below_more}
use Rattle.fleet_grid.specs.Floor.{IsFloor}
use Rattle.fleet_grid.specs.inside.Parts.{HasLabel}
use Rattle.fleet_grid.proofs.Rounds.{all_labelled}
use Rattle.fleet_grid.proofs.parts.label_all.Goals as goal

pub loop-cell-init : goal.loop-cell-init
loop-cell-init g c = record { done = c.requires; has = λ k less f. absurd (omega (arith, less)) }

pub label_part-requires : goal.label_part-requires
label_part-requires g c = record { done = c.loop-cell.invariant.done }

pub loop-cell-preserved : goal.loop-cell-preserved
loop-cell-preserved g c =
    let m = c.args.cells.now in
    record {
      done = c.in_ok-label_part.ensures.done;
      has = below_more (λ k. IsFloor m k → HasLabel c.label_part.new.labels k) c.loop-cell.cell
          (λ k less f. c.in_ok-label_part.ensures.kept k (c.loop-cell.invariant.has k less f))
          c.in_ok-label_part.ensures.labelled;
    }

pub returns : goal.returns
returns g c = all_labelled c.args.cells.now c.loop-cell.labels c.loop-cell.invariant.done
    (λ cell less f. c.loop-cell.invariant.has cell (omega (arith, less, c.loop-cell-test.false, c.count-cell-end.ensures.value)) f)
