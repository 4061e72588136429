use Rattle.std.proofs.Common.{◌≡◌, ℕ, ◌<◌, ◌≤◌, vec_len}
use Rattle.std.specs.Prelude.{slice_index}
use Rattle.std.specs.Vec.{vec_capacity}
use Rattle.fleet_bridge.proofs.numbers.own_numbers.Given as goal

abbrev pub invariant-loop-cell : goal.invariant-loop-cell
invariant-loop-cell g l = record {
  size : vec_len l.own ≡ l.cell;
  room : l.count ≤ vec_capacity l.own;
  own : (k : ℕ) → k < l.cell → slice_index l.own.items k ≡ k;
}
