-- One more robot's new cell.
use Rattle.std.proofs.Common.{ℕ, None, Option, get_or, ap}
use Rattle.fleet_execution.specs.declared.robot.Leave.{Leave}
use Rattle.fleet_execution.specs.declared.robot.Planned.{Planned}
use Rattle.fleet_execution.proofs.Stepping.{AreCells, more_cells}
use Rattle.fleet_execution.proofs.state.State.note_cells.Goals as goal

abbrev cell_after : ℕ → Option Leave → Planned
cell_after cell a = record { to = cell; after = a; follower = None }

pub loop-robot-preserved : goal.loop-robot-preserved
loop-robot-preserved g c =
    let cells : AreCells c.args.self.now c.loop-robot.self c.args.to.now c.args.step c.loop-robot.robot = record {
      rest = c.loop-robot.invariant.rest;
      size = c.loop-robot.invariant.size;
      now = c.loop-robot.invariant.now;
      others = c.loop-robot.invariant.others;
    } in
    let more = more_cells c.args.self.now c.loop-robot.self c.args.to.now c.args.step c.loop-robot.robot c.slot-slot.result (cell_after (get_or c.args.to.now c.loop-robot.robot 0) c.get-after.result) c.set.new.self cells
    c.loop-robot-test.true c.slot-slot.ensures.value c.slot-slot.ensures.inside c.set.ensures
    (ap (λ (a : Option Leave). cell_after (get_or c.args.to.now c.loop-robot.robot 0) a) (c.get-after.ensures None)) in
    record { rest = more.rest; size = more.size; now = more.now; others = more.others }
