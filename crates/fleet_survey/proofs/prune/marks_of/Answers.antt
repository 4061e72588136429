use Rattle.std.proofs.Common.{◌≡◌, ℕ, false, arith}
use Rattle.fleet_grid.specs.Floor.{IsFloor}
use Rattle.fleet_grid.proofs.Forms.{floor_inside}
use Rattle.fleet_roomy.specs.Unroomy.{has}
use Rattle.fleet_survey.proofs.Marks.{one_marked}
use Rattle.fleet_survey.proofs.prune.marks_of.Goals as goal

pub loop-cell-preserved : goal.loop-cell-preserved
loop-cell-preserved c = record {
  size = omega (arith, c.in_ok-push.ensures.len, c.loop-cell.invariant.size);
  each = one_marked (λ (k : ℕ). IsFloor c.args.grid.now k × (has c.args.others.now.marks.items k ≡ false)) c.loop-cell.marks.items c.loop-cell.cell c.is_roomy.result c.push.new.self.items (omega (arith, c.loop-cell.invariant.size, c.loop-cell.marks.ok.0)) c.in_ok-push.ensures.items
      c.loop-cell.invariant.each c.is_roomy.ensures;
}

pub returns : goal.returns
returns c = record {
  size = omega (arith, c.loop-cell.invariant.size, c.loop-cell.marks.ok.0, c.loop-cell-test.false, c.loop-cell.auto.cell-end, c.cell_count-cell-end.ensures.value);
  marked = λ k. (
    λ is. ((c.loop-cell.invariant.each k).0 is).1,
    λ it. (c.loop-cell.invariant.each k).1 ((let inside = floor_inside c.args.grid.now k it.0 in omega (arith, inside, c.loop-cell-test.false, c.cell_count-cell-end.ensures.value)), it),
  );
}
