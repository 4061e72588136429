-- Whole lines: those that end with a line feed.
use Rattle.std.specs.Prelude.{ℕ, List, [], ◌∷◌, ◌++◌}
use Rattle.std.specs.List.{slice_split}
use Rattle.fleet_map.specs.Text.{is_line_feed}

-- the list without its last item
abbrev pub but_last : List (List ℕ) → List (List ℕ)
but_last [] = []
but_last (x ∷ []) = []
but_last (x ∷ y ∷ ys) = x ∷ but_last (y ∷ ys)

-- the whole lines of the bytes, without their line feeds; what follows the last line feed is in none
abbrev pub whole_lines : List ℕ → List (List ℕ)
whole_lines bytes = but_last (slice_split is_line_feed bytes)

-- the bytes of whole lines
abbrev pub bytes_of : List (List ℕ) → List ℕ
bytes_of [] = []
bytes_of (line ∷ lines) = line ++ 10 ∷ bytes_of lines
