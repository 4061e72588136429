use Rattle.std.proofs.Common.{◌≡◌, ℕ, ◌<◌}
use Rattle.fleet_execution.specs.Executes.{IsIn}
use Rattle.fleet_execution.specs.Stepped.{IsMover}
use Rattle.fleet_execution.specs.State.{desk_of}
use Rattle.fleet_execution.proofs.state.State.offer_all.Given as goal

abbrev pub invariant-loop-robot : goal.invariant-loop-robot
invariant-loop-robot g l = record {
  rest : l.self ≡ record l.fn.self { ready = l.self.ready };
  robots : l.self.ready.robots ≡ l.fn.self.ready.robots;
  keeps : (q : ℕ) → IsIn l.fn.self.ready.items q → IsIn l.self.ready.items q;
  offered : (r : ℕ) → r < l.robot → IsMover (desk_of l.fn.self) l.to r → ((desk_of l.fn.self).robot r).returned ≡ ((desk_of l.fn.self).robot r).reached → IsIn l.self.ready.items r;
}
