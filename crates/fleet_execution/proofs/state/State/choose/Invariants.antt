use Rattle.std.proofs.Common.{◌≡◌, None, length}
use Rattle.fleet_execution.specs.Course.{Course}
use Rattle.fleet_execution.specs.Desk.{HasSameBounds}
use Rattle.fleet_execution.specs.Executes.{Executes}
use Rattle.fleet_execution.specs.State.{desk_of, IsSized}
use Rattle.fleet_execution.proofs.state.State.choose.Given as goal

abbrev pub invariant-loop-robot : goal.invariant-loop-robot
invariant-loop-robot g l = record {
  sized : IsSized l.self;
  idle : l.self.turning ≡ None;
  keeps : (o : Course) → Executes (desk_of l.fn.self) o → Executes (desk_of l.self) o;
  bounds : HasSameBounds (desk_of l.fn.self) (desk_of l.self);
}

abbrev pub decreases-loop-robot : goal.decreases-loop-robot
decreases-loop-robot g l = length l.self.ready.items
