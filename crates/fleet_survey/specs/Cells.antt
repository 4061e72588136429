-- Lists of cells as text: words that are a cell's number, or its column and row with a comma between them.
use Rattle.std.specs.Prelude.{◌≡◌, ℕ, ◌+◌, ◌*◌, ◌==◌, Bool, List, [], ◌∷◌, ◌++◌, take, drop, Option, None, Some, Result, Ok, Err, if◌then◌else◌, nat_lt}
use Rattle.std.specs.List.{position}
use Rattle.fleet_map.specs.Text.{lines_of, number_of, words_of}
use Rattle.fleet_grid.specs.Floor.{Floor, is_floor}
use Rattle.fleet_survey.specs.declared.fault.CellsFault.{CellsFault}
use Rattle.fleet_survey.specs.declared.fault.CellsFault.TheVariants as cells_fault

-- ---- words

-- whether the byte is a comma
abbrev pub is_comma : ℕ → Bool
is_comma b = b == 44

-- the cell in a column and a row, if the map has both
abbrev pub cell_on : Floor → (column row : ℕ) → Option ℕ
cell_on m column row = if nat_lt column m.width then (if nat_lt row m.height then Some (row * m.width + column) else None) else None

-- the cell in a column and a row, if both are numbers and the map has them
abbrev pub cell_by : Floor → (column row : Option ℕ) → Option ℕ
cell_by m None row = None
cell_by m (Some column) None = None
cell_by m (Some column) (Some row) = cell_on m column row

-- the number, or the column and the row before and after the comma at this place
abbrev pub cell_at : Floor → List ℕ → Option ℕ → Option ℕ
cell_at m word None = number_of word
cell_at m word (Some k) = cell_by m (number_of (take k word)) (number_of (drop (k + 1) word))

-- the cell, if there is one and it is floor
abbrev pub floor_only : Floor → Option ℕ → Option ℕ
floor_only m None = None
floor_only m (Some cell) = if is_floor m cell then Some cell else None

-- the floor cell that a word names
abbrev pub named_cell : Floor → List ℕ → Option ℕ
named_cell m word = floor_only m (cell_at m word (position is_comma word))

-- ---- lines

-- the cell and the cells after it; `None` where either is missing
abbrev pub and_these : Option ℕ → Option (List ℕ) → Option (List ℕ)
and_these None cells = None
and_these (Some cell) None = None
and_these (Some cell) (Some cells) = Some (cell ∷ cells)

-- the floor cells that the words name, if each names one
abbrev pub named_cells : Floor → List (List ℕ) → Option (List ℕ)
named_cells m [] = Some []
named_cells m (word ∷ words) = and_these (named_cell m word) (named_cells m words)

-- the cells of a line and of the lines after it, or the number of the first line with a word that names none
abbrev pub and_lines : ℕ → Option (List ℕ) → Result (List ℕ) ℕ → Result (List ℕ) ℕ
and_lines number None rest = Err number
and_lines number (Some cells) (Err bad) = Err bad
and_lines number (Some cells) (Ok rest) = Ok (cells ++ rest)

-- the floor cells of the lines, which are counted from this number, or the number of the first line with a word that names none
abbrev pub cells_from : Floor → ℕ → List (List ℕ) → Result (List ℕ) ℕ
cells_from m number [] = Ok []
cells_from m number (line ∷ lines) = and_lines number (named_cells m (words_of line)) (cells_from m (number + 1) lines)

-- the floor cells that a text lists, or the number of its first line with a word that names none
abbrev pub listed_cells : Floor → List ℕ → Result (List ℕ) ℕ
listed_cells m text = cells_from m 1 (lines_of text)

-- why no cells are read, out of memory apart
abbrev pub IsCellsFault : Floor → List ℕ → CellsFault → Type 0
IsCellsFault m text (cells_fault.Line number) = listed_cells m text ≡ Err number
IsCellsFault m text cells_fault.NoMemory = Unit {0}
