-- What a cache has place for, and what it keeps.
use Rattle.std.specs.Prelude.{◌≡◌, ℕ, ◌*◌, ◌/◌, ◌<◌, List, [], length, max, min, slice_index, slice_index_or}
use Rattle.std.specs.List.{Contains}
use Rattle.fleet_grid.specs.Floor.{Floor}
use Rattle.fleet_field.specs.Field.{Aim, IsField, aim_of}

-- the kept fields, the last used first, and the bytes that they may have
pub record FieldCache : Type 0 where
  pub kept : List Aim
  pub bytes : ℕ

-- how many cells the kept fields have, as the last used one shows
abbrev pub cells_kept : List Aim → ℕ
cells_kept kept = length (slice_index_or kept 0 (aim_of 0 [])).away

-- the bytes of the kept fields, or the greatest number of a machine word
abbrev pub bytes_kept : List Aim → ℕ
bytes_kept kept = min (length kept * cells_kept kept) 18446744073709551615

-- how many fields of this many cells have place in this many bytes, a byte a cell
abbrev pub places : ℕ → ℕ → ℕ
places bytes cells = bytes / max cells 1

-- a field of the goal is kept
abbrev pub HasKept : List Aim → ℕ → Type 0
HasKept kept aimed = (field : Aim) × Contains kept field × (field.goal ≡ aimed)

-- a field of each goal is kept
abbrev pub AreKept : List ℕ → List Aim → Type 0
AreKept goals kept = (i : ℕ) → i < length goals → HasKept kept (slice_index goals i)

-- the field is that of one of the goals
abbrev pub IsFieldOf : Floor → List ℕ → Aim → Type 0
IsFieldOf m goals field = (i : ℕ) × (i < length goals) × IsField m (slice_index goals i) field
