-- The text of a map.
use Rattle.std.specs.Prelude.{ℕ, zero, suc, ◌-◌, ◌%◌, ◌==◌, Bool, false, List, [], ◌++◌, codes, decimal, length, if◌then◌else◌}
use Rattle.fleet_grid.specs.Floor.{Floor, is_floor}

-- the sign of a cell: `.` for floor, `@` for a wall
abbrev pub sign_of : Floor → ℕ → List ℕ
sign_of m cell = if is_floor m cell then codes "." else codes "@"

-- whether the cell is the last one of its row
abbrev pub is_last : ℕ → ℕ → Bool
is_last width cell = if width == 0 then false else cell % width == width - 1

-- the sign of a cell, and the line's end after the last one of a row
abbrev pub square_text : Floor → ℕ → ℕ → List ℕ
square_text m width cell = sign_of m cell ++ (if is_last width cell then codes "\n" else [])

-- the rows, with the cells below this one
abbrev pub rows_below : Floor → ℕ → ℕ → List ℕ
rows_below m width zero = []
rows_below m width (suc cell) = rows_below m width cell ++ square_text m width cell

-- the four lines of a map's head
abbrev pub map_head : ℕ → ℕ → List ℕ
map_head height width = codes "type octile\nheight " ++ (decimal height ++ (codes "\nwidth " ++ (decimal width ++ codes "\nmap\n")))

-- `.` for each floor cell, `@` for each wall
abbrev pub map_text : Floor → List ℕ
map_text m = map_head m.height m.width ++ rows_below m m.width (length m.letters)
