-- The way to a core, by lists of cells.
use Rattle.std.specs.Prelude.{ℕ, ◌==◌, List, Option, Some, None, if◌then◌else◌, slice_index}

-- how far the cell is from this core, if it is the core of the cell's part
abbrev pub way_to_core : (core away : List ℕ) → (goal cell : ℕ) → Option ℕ
way_to_core core away goal cell = if slice_index core cell == goal then Some (slice_index away cell) else None
