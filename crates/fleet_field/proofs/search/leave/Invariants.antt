use Rattle.std.proofs.Common.{◌≡◌, ℕ, ◌+◌, ◌*◌, ◌<◌, ◌≤◌, List, length, take}
use Rattle.fleet_field.specs.inside.Search.{Search}
use Rattle.fleet_field.specs.inside.Labels.{label, AreLabels, Leaves}
use Rattle.fleet_field.proofs.search.leave.Given as goal

abbrev pub invariant-loop-place : goal.invariant-loop-place
invariant-loop-place g l = record {
  len : length l.labels ≡ length l.fn.labels;
  kept : length l.next ≡ length l.fn.next;
  most : l.count ≤ 4 * l.place-index;
  so_far : (level : ℕ) (dist : List ℕ) → level + 1 < 4294967294 → l.mark ≡ label (level + 1) → Search dist l.stride level level l.now → AreLabels l.stride dist l.fn.labels → (new : List ℕ) × Leaves l.stride level dist l.now l.place-index new (take l.count l.next) l.labels;
}
