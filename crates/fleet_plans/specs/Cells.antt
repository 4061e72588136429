-- The cells in a plan's text: (X,Y), with X the column and Y the row, separated by commas. One comma may follow the last. Each may have a
-- direction, as (X,Y,X_PLUS), which says nothing here; then all of them have.
use Rattle.std.specs.Prelude.{ℕ, ◌+◌, ◌-◌, ◌*◌, Bool, List, [], ◌∷◌, length, take, slice_index, Option, Some, None, min, nat_lt, ◌==◌, ◌&&◌, ◌||◌, not, false, if◌then◌else◌, codes}
use Rattle.std.specs.List.{slice_split}
use Rattle.std.specs.Option.{option_map, option_and_then}
use Rattle.std.specs.Str.{bytes_eq}
use Rattle.fleet_map.specs.Text.{number_of, without_empty_last}

-- whether the byte is a comma
abbrev pub is_comma : ℕ → Bool
is_comma b = b == 44

-- the parts between commas, where an empty last part is none
abbrev pub parts_of : List ℕ → List (List ℕ)
parts_of text = without_empty_last (slice_split is_comma text)

-- a coordinate; those from 1,024 on are alike, since no map has as many rows or columns
abbrev pub coordinate : List ℕ → Option ℕ
coordinate word = option_map (λ n. min n 1024) (number_of word)

-- the column of a part (X
abbrev pub column_in : List ℕ → Option ℕ
column_in [] = None
column_in (b ∷ digits) = if b == 40 then coordinate digits else None

-- the row of a part Y)
abbrev pub row_in : List ℕ → Option ℕ
row_in part = if slice_index part (length part - 1) == 41 then coordinate (take (length part - 1) part) else None

-- the number of the cell, row by row from 0; 2^32 - 1, which is no cell of any map, outside of the map
abbrev pub cell_at : ℕ → ℕ → ℕ → ℕ → ℕ
cell_at width height x y = if nat_lt x width && nat_lt y height then y * width + x else 4294967295

-- the cell of two parts (X and Y)
abbrev pub pair_in : ℕ → ℕ → List ℕ → List ℕ → Option ℕ
pair_in width height a b = option_and_then (λ x. option_map (λ y. cell_at width height x y) (row_in b)) (column_in a)

-- the cells of a list of parts
abbrev pub cells_in : ℕ → ℕ → List (List ℕ) → Option (List ℕ)
cells_in width height [] = Some []
cells_in width height (part ∷ []) = None
cells_in width height (a ∷ b ∷ parts) = option_and_then (λ c. option_map (λ cs. c ∷ cs) (cells_in width height parts)) (pair_in width height a b)

-- ---- with directions

-- a part that is a direction, and ends a cell
abbrev pub is_direction : List ℕ → Bool
is_direction part =
    bytes_eq part (codes "X_PLUS)") || bytes_eq part (codes "X_MINUS)") || bytes_eq part (codes "Y_PLUS)") || bytes_eq part (codes "Y_MINUS)")

-- the cell of three parts (X, Y and DIRECTION)
abbrev pub faced_in : ℕ → ℕ → List ℕ → List ℕ → List ℕ → Option ℕ
faced_in width height a b direction =
    if is_direction direction then option_and_then (λ x. option_map (λ y. cell_at width height x y) (coordinate b)) (column_in a) else None

-- the cells of a list of parts, where each has a direction
abbrev pub faced_cells : ℕ → ℕ → List (List ℕ) → Option (List ℕ)
faced_cells width height [] = Some []
faced_cells width height (part ∷ []) = None
faced_cells width height (a ∷ b ∷ []) = None
faced_cells width height (a ∷ b ∷ c ∷ parts) = option_and_then (λ cell. option_map (λ cells. cell ∷ cells) (faced_cells width height parts)) (faced_in width height a b c)

-- whether cells have directions: the second part ends no cell
abbrev pub is_faced : List (List ℕ) → Bool
is_faced [] = false
is_faced (part ∷ []) = false
is_faced (a ∷ b ∷ parts) = not (slice_index b (length b - 1) == 41)

-- the cells of a list of parts, with or without directions
abbrev pub listed_in : ℕ → ℕ → List (List ℕ) → Option (List ℕ)
listed_in width height parts = if is_faced parts then faced_cells width height parts else cells_in width height parts
