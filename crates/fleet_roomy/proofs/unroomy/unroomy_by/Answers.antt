-- Each cell was marked by whether it is floor and not roomy.
use Rattle.std.proofs.Common.{arith}
use Rattle.fleet_roomy.specs.Unroomy.{IsUnroomyCell}
use Rattle.fleet_roomy.proofs.Marking.{marked_all, one_marked}
use Rattle.fleet_roomy.proofs.unroomy.unroomy_by.Goals as goal

pub loop-cell-preserved : goal.loop-cell-preserved
loop-cell-preserved g c = record {
  size = omega (arith, c.in_ok-push.ensures.len, c.loop-cell.invariant.size);
  each = one_marked (IsUnroomyCell c.args.grid.now c.args.robots) c.loop-cell.marks.items c.loop-cell.cell c.is_unroomy.result c.push.new.self.items (omega (arith, c.loop-cell.invariant.size, c.loop-cell.marks.ok.0)) c.in_ok-push.ensures.items
      c.loop-cell.invariant.each c.is_unroomy.ensures;
}

pub returns : goal.returns
returns g c =
    marked_all c.args.grid.now c.args.most.now c.args.robots c.loop-cell.marks.items c.loop-cell.cell c.requires (omega (arith, c.ranges.robots.fits)) (omega (arith, c.loop-cell-test.false, c.cell_count-cell-end.ensures.value)) c.loop-cell.invariant.each
