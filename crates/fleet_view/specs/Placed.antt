-- Placements as text: a line for each, with a sign for each robot's step; a robot that goes elsewhere has a mark and its cell.
use Rattle.std.specs.Prelude.{ℕ, zero, suc, ◌+◌, ◌/◌, ◌%◌, List, [], ◌∷◌, ◌++◌, Option, Some, None, ◌==◌, if◌then◌else◌, codes, length, slice_index}
use Rattle.fleet_plans.specs.Valid.{place_at}

-- one of 64 signs, from `?` on
abbrev pub sign : ℕ → ℕ
sign part = 63 + part % 64

-- a number below 2^32 as six signs, the highest first
abbrev pub cell_signs : ℕ → List ℕ
cell_signs cell = sign (cell / 1073741824) ∷ sign (cell / 16777216) ∷ sign (cell / 262144) ∷ sign (cell / 4096) ∷ sign (cell / 64) ∷ sign cell ∷ []

-- the letter of a step on a map of this width: `.` stays, `n` `s` `w` `e` goes to the cell above, below, before, after
abbrev pub letter : ℕ → ℕ → ℕ → Option ℕ
letter width from to =
    if to == from then Some 46
    else if to + width == from then Some 110
    else if from + width == to then Some 115
    else if to + 1 == from then Some 119
    else if from + 1 == to then Some 101
    else None

-- without a letter `!` and the cell
abbrev pub signs_of : ℕ → Option ℕ → List ℕ
signs_of to (Some letter) = letter ∷ []
signs_of to None = 33 ∷ cell_signs to

-- the step of a robot from a cell to a cell
abbrev pub step_signs : ℕ → ℕ → ℕ → List ℕ
step_signs width from to = signs_of to (letter width from to)

-- the steps of the robots below this number; one that was nowhere comes from cell 0
abbrev pub steps_below : ℕ → List ℕ → List ℕ → ℕ → List ℕ
steps_below width from to zero = []
steps_below width from to (suc r) = steps_below width from to r ++ step_signs width (slice_index from r) (slice_index to r)

abbrev pub line_text : ℕ → List ℕ → List ℕ → List ℕ
line_text width from to = steps_below width from to (length to) ++ codes "\n"

-- the placement before a time; none before time 0
abbrev pub before : List (List ℕ) → ℕ → List ℕ
before places zero = []
before places (suc time) = place_at places time

-- the lines of the placements before this time
abbrev pub lines_below : ℕ → List (List ℕ) → ℕ → List ℕ
lines_below width places zero = []
lines_below width places (suc time) = lines_below width places time ++ line_text width (before places time) (place_at places time)

-- a line for each placement
abbrev pub places_text : ℕ → List (List ℕ) → List ℕ
places_text width places = lines_below width places (length places)
