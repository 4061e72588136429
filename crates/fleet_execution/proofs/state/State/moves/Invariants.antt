use Rattle.std.proofs.Common.{◌≡◌, ◌≤◌, get_or, not, eqb}
use Rattle.fleet_execution.specs.Executes.{count_below}
use Rattle.fleet_execution.specs.State.{desk_of}
use Rattle.fleet_execution.proofs.state.State.moves.Given as goal

abbrev pub invariant-loop-robot : goal.invariant-loop-robot
invariant-loop-robot g l = record {
  few : l.moves ≤ l.robot;
  count : l.moves ≡ count_below l.robot (λ r. not (eqb (get_or l.to r 0) ((desk_of l.self).robot r).last));
}
