use Rattle.std.proofs.Common.{◌≡◌, ◌<◌, ℕ, None}
use Rattle.std.specs.Prelude.{MatchOption}
use Rattle.fleet_pibt.specs.Order.{wait_of}
use Rattle.fleet_pibt.specs.Eldest.{IsEldestOf}
use Rattle.fleet_planner.proofs.waits.eldest.Given as goal

abbrev pub invariant-loop-robot : goal.invariant-loop-robot
invariant-loop-robot l = MatchOption l.found ((r : ℕ) → r < l.robot → wait_of l.waits r ≡ None) (λ e. IsEldestOf (wait_of l.waits) l.robot e)
