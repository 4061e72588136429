-- So far moves have begun, and some are reached.
use Rattle.std.proofs.Common.{◌≡◌}
use Rattle.fleet_execution.specs.Course.{Course}
use Rattle.live_vehicles.specs.Follows.{Follows}
use Rattle.live_vehicles.specs.Opened.{HasMoved}
use Rattle.live_vehicles.proofs.regaining.go_up_to.Given as goal

abbrev pub invariant-loop-move : goal.invariant-loop-move
invariant-loop-move l = record {
  first : l.vehicles.first ≡ l.fn.vehicles.first;
  moved : (o : Course) → Follows l.fn.vehicles o → HasMoved o l.vehicles;
}
