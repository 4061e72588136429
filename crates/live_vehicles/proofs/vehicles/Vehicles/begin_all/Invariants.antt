-- These moves have begun.
use Rattle.std.proofs.Common.{◌≡◌, string_bytes}
use Rattle.fleet_execution.specs.Course.{Course}
use Rattle.fleet_execution.specs.Desk.{steps_left}
use Rattle.fleet_execution.specs.Kept.{desk}
use Rattle.live_vehicles.specs.Follows.{Follows}
use Rattle.live_vehicles.proofs.Steps.{BegunYet}
use Rattle.live_vehicles.proofs.vehicles.Vehicles.begin_all.Given as goal

abbrev pub invariant-loop-begun : goal.invariant-loop-begun
invariant-loop-begun l = record {
  first : l.self.first ≡ l.fn.self.first;
  waits : l.self.waits ≡ l.fn.self.waits;
  begun : (o : Course) → Follows l.fn.self o → BegunYet o (string_bytes l.fn.told) (string_bytes l.told) l.fn.self.first l.self;
}

abbrev pub decreases-loop-begun : goal.decreases-loop-begun
decreases-loop-begun l = steps_left (desk l.self.run)
