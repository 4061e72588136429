-- The labels before a search, row by row.
use Rattle.std.specs.Prelude.{◌≡◌, ◌≢◌, ℕ, ◌+◌, ◌*◌, ◌<◌, ◌≤◌, ◌⊎◌, ◌==◌, cond, List, length, slice_index}
use Rattle.fleet_grid.specs.Padded.{place}

-- the label of a cell before a search: shut where it has no ways
abbrev pub unseen_label : ℕ → ℕ
unseen_label ways = cond (ways == 0) 64 0

-- the labels of this many cells from one on stand in the list from an entry on, and the others are as they were
pub record HasLabels (ways : List ℕ) (start first count : ℕ) (old new : List ℕ) : Type 0 where
  pub len : length new ≡ length old
  pub below : (v : ℕ) → v < start → slice_index new v ≡ slice_index old v
  pub each : (k : ℕ) → k < count → slice_index new (start + k) ≡ unseen_label (slice_index ways (first + k))
  pub rest : (v : ℕ) → start + count ≤ v → slice_index new v ≡ slice_index old v

-- the cells of this many rows have their labels, and all other places are shut
pub record AreLaid (rows width stride : ℕ) (ways labels : List ℕ) : Type 0 where
  pub cells : (cell : ℕ) → cell < rows * width → slice_index ways cell ≢ 0 → slice_index labels (place width stride cell) ≡ 0
  pub each : (v : ℕ) → v < length labels → (slice_index labels v ≡ 64)
      ⊎ ((slice_index labels v ≡ 0) × (cell : ℕ) × (cell < rows * width) × (v ≡ place width stride cell) × (slice_index ways cell ≢ 0))
