use Rattle.std.proofs.Common.{◌≡◌, ◌%◌, ℕ, ◌<◌, ◌≤◌, length, slice_index, vec_len, vec_capacity}
use Rattle.bench.proofs.fleet.aims_of.Given as goal

abbrev pub invariant-loop-robot : goal.invariant-loop-robot
invariant-loop-robot l = record {
  count : length l.aims.items ≡ l.robot;
  len : vec_len l.aims ≡ l.robot;
  room : l.robots ≤ vec_capacity l.aims;
  each : (r : ℕ) → r < l.robot → slice_index l.aims.items r ≡ r % l.fields;
  far : l.robot ≤ l.robots;
}
