use Rattle.std.proofs.Common.{◌≡◌, ◌++◌}
use Rattle.fleet_view.specs.Placed.{steps_below}
use Rattle.fleet_view.proofs.placed.write_steps.Given as goal

abbrev pub invariant-loop-robot : goal.invariant-loop-robot
invariant-loop-robot l = l.out.items ≡ l.fn.out.items ++ steps_below l.width l.from l.to l.robot
