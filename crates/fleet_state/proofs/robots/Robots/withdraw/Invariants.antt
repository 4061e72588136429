use Rattle.std.proofs.Common.{◌≡◌, ◌<◌, ◌≤◌, ℕ, length}
use Rattle.fleet_state.specs.Robots.{queue_at, without_errand}
use Rattle.fleet_state.proofs.robots.Robots.withdraw.Given as goal

abbrev pub invariant-loop-r : goal.invariant-loop-r
invariant-loop-r g l = record {
  cells : l.self-inside.cells.items ≡ l.initial.self-inside.cells.items;
  count : length l.self-inside.queues.items ≡ length l.initial.self-inside.queues.items;
  before : (k : ℕ) → k < l.r → queue_at l.self-inside.queues.items k ≡ without_errand l.client l.number (queue_at l.initial.self-inside.queues.items k);
  behind : (k : ℕ) → l.r ≤ k → queue_at l.self-inside.queues.items k ≡ queue_at l.initial.self-inside.queues.items k;
  fronts : l.self-inside.fronts.items ≡ l.initial.self-inside.fronts.items;
  waits : l.self-inside.waits.items ≡ l.initial.self-inside.waits.items;
}
