-- The padded form of a map, over which a distance field is searched: a row of walls above and below, and columns of
-- walls after each row. A floor cell's place holds 4294967295, each other place 4294967294.
use Rattle.std.specs.Prelude.{◌≡◌, ◌≢◌, ℕ, ◌+◌, ◌*◌, ◌/◌, ◌%◌, ◌<◌, List, length, slice_index}
use Rattle.fleet_grid.specs.Floor.{Floor, IsFloor}

-- the place stands in the list and is no wall
abbrev pub IsOpen : List ℕ → ℕ → Type 0
IsOpen places v = (v < length places) × (slice_index places v ≢ 4294967294)

-- the place of a cell, where each row has `stride` places
abbrev pub place : ℕ → ℕ → ℕ → ℕ
place width stride cell = (cell / width + 1) * stride + cell % width

-- the list is the padded form of the map, with `stride` places a row, of which one or more after the cells are wall
pub record IsPadded (m : Floor) (stride : ℕ) (blank : List ℕ) : Type 0 where
  pub apart : m.width < stride
  pub small : length blank < 1073741824
  pub size : length blank ≡ (m.height + 2) * stride
  pub each : (c : ℕ) → IsFloor m c → slice_index blank (place m.width stride c) ≡ 4294967295
  pub only : (v : ℕ) → IsOpen blank v → (slice_index blank v ≡ 4294967295) × (c : ℕ) × IsFloor m c × (v ≡ place m.width stride c)
