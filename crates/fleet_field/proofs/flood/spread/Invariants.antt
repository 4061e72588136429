use Rattle.std.proofs.Common.{◌≡◌, ℕ, ◌≤◌, ◌<◌, ◌+◌, ◌*◌, [], length, slice_index, take}
use Rattle.fleet_field.specs.inside.Search.{IsLink, Extends}
use Rattle.fleet_field.proofs.flood.spread.Given as goal

abbrev pub invariant-loop-cell : goal.invariant-loop-cell
invariant-loop-cell l = record {
  kept : length l.next ≡ length l.fn.next;
  most : l.count ≤ 4 * l.cell-index;
  extends : Extends l.stride l.level l.fn.dist [] l.dist (take l.count l.next);
  done : (k : ℕ) → k < l.cell-index → (v : ℕ) → IsLink l.dist l.stride (slice_index l.now k) v → slice_index l.dist v ≤ l.level + 1;
}
