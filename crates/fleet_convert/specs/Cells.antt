-- A plan as a line of cells a time, as pibt2 and LaCAM write it: `TIME:(X,Y),(X,Y),..,`, with X the column and Y the row.
use Rattle.std.specs.Prelude.{ℕ, ◌+◌, ◌-◌, ◌/◌, ◌%◌, List, [], ◌∷◌, ◌++◌, length, codes, decimal}
use Rattle.std.specs.List.{flat_map}
use Rattle.fleet_plans.specs.Valid.{place_at}

-- a cell of a map of this width, and a comma
abbrev pub cell_text : ℕ → ℕ → List ℕ
cell_text width cell = codes "(" ++ decimal (cell % width) ++ codes "," ++ decimal (cell / width) ++ codes "),"

-- the cells, with a comma after each
abbrev pub cells_text : ℕ → List ℕ → List ℕ
cells_text width cells = flat_map (λ cell. cell_text width cell) cells

-- the line of a time
abbrev pub place_line : ℕ → ℕ → List ℕ → List ℕ
place_line width time place = decimal time ++ codes ":" ++ cells_text width place ++ codes "\n"

-- a line for each time, from this one on
abbrev pub places_text : ℕ → ℕ → List (List ℕ) → List ℕ
places_text width time [] = []
places_text width time (place ∷ places) = place_line width time place ++ places_text width (time + 1) places

-- where the robots are at the end
abbrev pub last_place : List (List ℕ) → List ℕ
last_place places = place_at places (length places - 1)

-- the number of robots, where they begin and where they end
abbrev pub cells_head : ℕ → List ℕ → List ℕ → List ℕ
cells_head width starts goals =
    codes "agents=" ++ decimal (length starts) ++ codes "\n"
    ++ (codes "starts=" ++ cells_text width starts ++ codes "\n")
    ++ (codes "goals=" ++ cells_text width goals ++ codes "\n")
    ++ codes "solution=\n"

-- the whole text
abbrev pub cells_plan : ℕ → List (List ℕ) → List ℕ
cells_plan width places = cells_head width (place_at places 0) (last_place places) ++ places_text width 0 places
