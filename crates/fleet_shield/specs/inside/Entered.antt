-- Lists that are read in reverse, by tables.
use Rattle.std.specs.Prelude.{◌≡◌, ℕ, ◌<◌, List, length, slice_index}

-- at each value of the list that is below its length, the table has the place of the value; so these values are apart
abbrev pub IsEntered : List ℕ → List ℕ → Type 0
IsEntered xs table = (k : ℕ) → k < length xs → slice_index xs k < length table → slice_index table (slice_index xs k) ≡ k
