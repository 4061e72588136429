use Rattle.std.proofs.Common.{◌≡◌, length}
use Rattle.fleet_execution.specs.Checked.{AreMarked}
use Rattle.fleet_execution.proofs.marks.mark_all.Given as goal

abbrev pub invariant-loop-robot : goal.invariant-loop-robot
invariant-loop-robot g l = record {
  size : length l.marks ≡ length l.fn.marks;
  marked : AreMarked l.to l.marks l.robot;
}
