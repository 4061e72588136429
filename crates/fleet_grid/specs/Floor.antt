-- The floor graph of a map: its cells are the numbers `row * width + col`, and its edges join floor cells that
-- share a side. The letters are MovingAI's.
use Rattle.std.specs.Prelude.{◌≡◌, ◌≢◌, ℕ, ◌+◌, ◌-◌, ◌*◌, ◌%◌, ◌≤◌, ◌||◌, ◌==◌, Bool, IsTrue, List, length, slice_index}
use Rattle.fleet_map.specs.Grammar.{Map}
use Rattle.fleet_grid.specs.declared.dir.Dir.{Dir}
use Rattle.fleet_grid.specs.declared.dir.Dir.TheVariants.{North, East, South, West}

-- a map: its sides, and its letters row by row
pub record Floor : Type 0 where
  pub height : ℕ
  pub width : ℕ
  pub letters : List ℕ

-- the map with this height, this width and these letters
abbrev pub floor_of : ℕ → ℕ → List ℕ → Floor
floor_of height width letters = record { height = height; width = width; letters = letters }

-- the map of a text, as a floor
abbrev pub floor_of_map : Map → Floor
floor_of_map m = floor_of m.height m.width m.cells

-- both sides are at most 1,024, and there is a letter for each cell
pub record HasForm (m : Floor) : Type 0 where
  pub low : m.height ≤ 1024
  pub slim : m.width ≤ 1024
  pub covered : length m.letters ≡ m.height * m.width

-- `.`, `G` and `S` are floor
abbrev pub is_floor_letter : ℕ → Bool
is_floor_letter letter = (letter == 46) || (letter == 71) || (letter == 83)

-- whether the cell's letter is floor; past the last cell there is none
abbrev pub is_floor : Floor → ℕ → Bool
is_floor m cell = is_floor_letter (slice_index m.letters cell)

-- the cell is a floor cell of the map
abbrev pub IsFloor : Floor → ℕ → Type 0
IsFloor m cell = IsTrue (is_floor m cell)

-- the cell `b` is next to `a` in that direction, on a map of that width
abbrev pub IsBeside : ℕ → Dir → ℕ → ℕ → Type 0
IsBeside width North a b = b + width ≡ a
IsBeside width East a b = (a + 1 ≡ b) × (b % width ≢ 0)
IsBeside width South a b = a + width ≡ b
IsBeside width West a b = (b + 1 ≡ a) × (a % width ≢ 0)

-- the number of the cell next to a cell in that direction, where the map has one there
abbrev pub cell_across : ℕ → ℕ → Dir → ℕ
cell_across width cell North = cell - width
cell_across width cell East = cell + 1
cell_across width cell South = cell + width
cell_across width cell West = cell - 1

-- two floor cells, the second next to the first in that direction
pub record IsNeighbourIn (m : Floor) (dir : Dir) (a b : ℕ) : Type 0 where
  pub from : IsFloor m a
  pub to : IsFloor m b
  pub beside : IsBeside m.width dir a b

-- two floor cells that share a side: an edge of the floor graph
abbrev pub IsNeighbour : Floor → ℕ → ℕ → Type 0
IsNeighbour m a b = (dir : Dir) × IsNeighbourIn m dir a b
