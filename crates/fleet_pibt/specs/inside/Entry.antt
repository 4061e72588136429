-- A table's entry: a number, or nothing, for which the greatest number of its bytes is written.
use Rattle.std.specs.Prelude.{◌≡◌, ℕ, Bool, true, false, ◌==◌, Option, Some, None, List, slice_index_or}

abbrev pub entry_by : Bool → ℕ → Option ℕ
entry_by true n = None
entry_by false n = Some n

-- an entry where this number stands for nothing
abbrev pub entry_beside : ℕ → ℕ → Option ℕ
entry_beside nothing n = entry_by (n == nothing) n

-- an entry of four bytes
abbrev pub entry : ℕ → Option ℕ
entry n = entry_beside 4294967295 n

-- an entry of two bytes
abbrev pub short_entry : ℕ → Option ℕ
short_entry n = entry_beside 65535 n

-- what a table has at a place
abbrev pub table : List (Option ℕ) → ℕ → Option ℕ
table xs k = slice_index_or xs k None

-- the table has nothing anywhere
abbrev pub IsEmpty : List (Option ℕ) → Type 0
IsEmpty xs = (k : ℕ) → table xs k ≡ None
