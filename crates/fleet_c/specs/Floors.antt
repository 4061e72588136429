-- What the calls on a map that was opened answer C.
use Rattle.std.specs.Prelude.{ℕ, ◌≡◌, ◌≢◌, ◌⊎◌, ◌<◌, ◌↔◌, List, ◌++◌, drop, filter, length, Option, None, Some}
use Rattle.std.specs.List.{range_with_len}
use Rattle.fleet_grid.specs.Counts.{edge_count, floor_count}
use Rattle.fleet_grid.specs.Floor.{Floor, IsFloor, IsNeighbour, is_floor}
use Rattle.fleet_grid.specs.Walk.{AreJoined}
use Rattle.fleet_roomy.specs.Unroomy.{IsUnroomyCell}
use Rattle.fleet_survey.specs.Served.{IsServedLimit}
use Rattle.fleet_survey.specs.Survey.{AreCells}
use Rattle.fleet_c.specs.Errands.{IsListed}
use Rattle.fleet_c.specs.OwnsMap.{HeldValue}
use Rattle.fleet_c.specs.declared.codes.TheConstants.{DONE, NOT_OPEN, NO_MEMORY, NO_TURNS, WRONG_LENGTH}
use Rattle.fleet_c.specs.declared.map_shape.MapShape.{MapShape}

-- a closed handle is refused and stays closed; this is said of the floor of an open one, which stays as it is
abbrev pub OfMap : Option HeldValue → Option HeldValue → ℕ → (Floor → Type 0) → Type 0
OfMap None new code Says = (code ≡ NOT_OPEN) × (new ≡ None)
OfMap (Some m) new code Says = (new ≡ Some m) × Says m

-- the sides of the map, and how many cells, floor cells and edges it has
pub record IsShape (m : Floor) (shape : MapShape) : Type 0 where
  pub height : shape.height ≡ m.height
  pub width : shape.width ≡ m.width
  pub cells : shape.cells ≡ length m.letters
  pub floor : shape.floor ≡ floor_count m
  pub edges : shape.edges ≡ edge_count m

-- both cells are floor, and a walk joins them
abbrev pub AreOnePart : Floor → ℕ → ℕ → Type 0
AreOnePart m a b = IsFloor m a × IsFloor m b × AreJoined (IsNeighbour m) a b

-- the floor cells, in their order
abbrev pub floor_cells : Floor → List ℕ
floor_cells m = filter (is_floor m) (range_with_len 0 (length m.letters))

-- the floor cells are told in the first places of the list; where it has fewer places, only how many they are
pub record ListsFloor (m : Floor) (code : ℕ) (before after : List ℕ) (count : ℕ) : Type 0 where
  pub counted : count ≡ length (floor_cells m)
  pub short : (code ≡ WRONG_LENGTH) ↔ (length before < length (floor_cells m))
  pub listed : code ≡ DONE → after ≡ floor_cells m ++ drop (length (floor_cells m)) before
  pub stays : code ≢ DONE → after ≡ before
  pub codes : code ≢ DONE → code ≡ WRONG_LENGTH

-- a list of the floor cells that are not roomy for n robots, each once, in their order, is told
pub record TellsUnroomy (m : Floor) (n code : ℕ) (before after : List ℕ) (had count : ℕ) : Type 0 where
  pub cells : List ℕ
  pub are : AreCells (IsUnroomyCell m n) cells
  pub listed : IsListed cells code before after had count

-- the same, or it was out of memory, and nothing is told
pub record ListsUnroomy (m : Floor) (n code : ℕ) (before after : List ℕ) (had count : ℕ) : Type 0 where
  pub tells : code ≢ NO_MEMORY → TellsUnroomy m n code before after had count
  pub memory : code ≡ NO_MEMORY → (after ≡ before) × (count ≡ had)

-- for how many robots all floor cells are served; or it was out of memory, or the rooms did not pass their checks, and nothing is told
pub record TellsServed (m : Floor) (code before after : ℕ) : Type 0 where
  pub told : code ≡ DONE → IsServedLimit m after
  pub same : code ≢ DONE → after ≡ before
  pub codes : code ≢ DONE → (code ≡ NO_TURNS) ⊎ (code ≡ NO_MEMORY)
