use Rattle.std.proofs.Common.{◌≡◌, ℕ, ◌-◌, ◌≤◌, length, slice_index}
use Rattle.std.specs.List.{Contains}
use Rattle.fleet_field.proofs.waiting.drop_come.Given as goal

abbrev pub invariant-loop-at : goal.invariant-loop-at
invariant-loop-at g l = record {
  kept : (v : ℕ) → Contains l.fn.cells.items v → slice_index l.labels v ≡ 0 → Contains l.cells.items v;
  only : (v : ℕ) → Contains l.cells.items v → Contains l.fn.cells.items v;
  fewer : length l.cells.items ≤ length l.fn.cells.items;
}

abbrev pub decreases-loop-at : goal.decreases-loop-at
decreases-loop-at g l = length l.cells.items - l.at
