use Rattle.std.proofs.Common.{◌≡◌, ℕ, ◌<◌, ◌≤◌, vec_len, slice_index}
use Rattle.std.specs.Vec.{vec_capacity}
use Rattle.fleet_bridge.specs.inside.Preorder.{subtree_size}
use Rattle.fleet_bridge.proofs.rooms.sizes_of.Given as goal

abbrev pub invariant-loop-cell : goal.invariant-loop-cell
invariant-loop-cell g l = record {
  size : vec_len l.sizes ≡ l.cell;
  room : l.count ≤ vec_capacity l.sizes;
  each : (k : ℕ) → k < l.cell → slice_index l.sizes.items k ≡ subtree_size (slice_index l.tree.number.items) (slice_index l.tree.end.items) k;
}
