use Rattle.std.proofs.Common.{◌≡◌, ◌<◌, ◌≤◌, ℕ, slice_index}
use Rattle.fleet_plans.specs.Costs.{IsNoted}
use Rattle.fleet_plans.proofs.costs.note_moves.Given as goal

abbrev pub invariant-loop-robot : goal.invariant-loop-robot
invariant-loop-robot l = record {
  done : (r : ℕ) → r < l.robot → IsNoted l.from l.to l.time r (slice_index l.initial.costs r) (slice_index l.costs r);
  rest : (r : ℕ) → l.robot ≤ r → slice_index l.costs r ≡ slice_index l.initial.costs r;
}
