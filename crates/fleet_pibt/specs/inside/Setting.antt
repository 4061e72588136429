-- What the plan of one step is made from, and where a plan stands: the words of the planner's own clauses.
use Rattle.std.specs.Prelude.{◌≡◌, ◌≢◌, ℕ, ◌<◌, ◌≤◌, ◌⊎◌, Bool, true, false, Option, Some, None, List, length, slice_index, slice_set, slice_get, ◌==◌}
use Rattle.fleet_grid.specs.Floor.{Floor, HasForm, IsNeighbour, IsNeighbourIn}
use Rattle.fleet_grid.specs.Step.{IsPlacement}
use Rattle.fleet_grid.specs.declared.dir.Dir.{Dir}
use Rattle.fleet_hooks.specs.declared.law.TieLaw.{TieLaw}
use Rattle.fleet_pibt.specs.Door.{IsOpen, IsPassage}
use Rattle.fleet_pibt.specs.declared.door.Door.{Door}
use Rattle.fleet_pibt.specs.inside.Entry.{table, IsEmpty}
use Rattle.fleet_pibt.specs.inside.Plan.{Vacant, Tidy, Edge, Shut, Grown, Failed}
use Rattle.fleet_pibt.specs.Ties.{Undercuts}

-- the map, the placement, the goals with the distances to them, the tie laws and the shut door of one step
pub record Setting : Type 0 where
  pub floor : Floor
  pub from : List ℕ
  pub goals : ℕ → Option ℕ
  pub distance : ℕ → ℕ → Option ℕ
  pub laws : List TieLaw
  pub door : Option Door

abbrev pub setting : Floor → List ℕ → (ℕ → Option ℕ) → (ℕ → ℕ → Option ℕ) → List TieLaw → Option Door → Setting
setting floor from goals distance laws door = record { floor = floor; from = from; goals = goals; distance = distance; laws = laws; door = door }

abbrev pub robots : Setting → ℕ
robots s = length s.from

abbrev pub cell_of : Setting → ℕ → ℕ
cell_of s robot = slice_index s.from robot

-- an edge of the map
abbrev pub adjacent : Setting → ℕ → ℕ → Type 0
adjacent s a b = IsNeighbour s.floor a b

-- an edge that a robot on a may cross
abbrev pub near : Setting → ℕ → ℕ → Type 0
near s a b = IsPassage s.floor s.door a b

-- the distance to the goal; without a goal, whether the cell is another than the robot's
abbrev pub cost_with : Option ℕ → Option ℕ → Bool → ℕ
cost_with (Some goal) (Some distance) own = distance
cost_with (Some goal) None own = 4294967295
cost_with None distance true = 0
cost_with None distance false = 1

-- what a cell costs a robot with that goal, whose own cell is `own`
abbrev pub cost_of : Option ℕ → (ℕ → Option ℕ) → (own cell : ℕ) → ℕ
cost_of goal distance own cell = cost_with goal (distance cell) (cell == own)

abbrev pub cost : Setting → ℕ → ℕ → ℕ
cost s robot cell = cost_of (s.goals robot) (s.distance robot) (cell_of s robot) cell

abbrev pub Stands : Setting → ℕ → ℕ → Type 0
Stands s robot cell = (robot < robots s) × (cell_of s robot ≡ cell)

abbrev pub Unmoved : Setting → ℕ → Type 0
Unmoved s cell = Vacant (robots s) (cell_of s) cell

pub record IsScene (s : Setting) : Type 0 where
  pub form : HasForm s.floor
  pub few : length s.from ≤ 512
  pub placed : IsPlacement s.floor s.from

-- the table of who stands where
pub record IsStanding (s : Setting) (standing : List (Option ℕ)) : Type 0 where
  pub all : length standing ≡ length s.floor.letters
  pub stands : (c r : ℕ) → table standing c ≡ Some r → Stands s r c
  pub known : (c : ℕ) → table standing c ≡ None → Unmoved s c

abbrev pub TidyBoard : Setting → List (Option ℕ) → List (Option ℕ) → Type 0
TidyBoard s target holder = Tidy (near s) (robots s) (cell_of s) (cost s) (table target) (table holder)

-- the robot may be planned on this board
pub record IsReady (s : Setting) (target holder : List (Option ℕ)) (robot : ℕ) : Type 0 where
  pub known : robot < robots s
  pub targets : length target ≡ robots s
  pub holders : length holder ≡ length s.floor.letters
  pub tidy : TidyBoard s target holder
  pub edge : Edge (near s) (robots s) (cell_of s) (cost s) (table target) (table holder) robot
  pub idle : table target robot ≡ None

-- the robot has decided, and so has each one whose cell is reserved
pub record IsDone (s : Setting) (target holder target' holder' : List (Option ℕ)) (robot : ℕ) : Type 0 where
  pub keep : (r c : ℕ) → table target r ≡ Some c → table target' r ≡ Some c
  pub settled : table target' robot ≢ None
  pub tidy : TidyBoard s target' holder'
  pub edge : Edge (near s) (robots s) (cell_of s) (cost s) (table target') (table holder') (robots s)

abbrev pub HasFailed : Setting → List (Option ℕ) → List (Option ℕ) → List (Option ℕ) → List (Option ℕ) → ℕ → Type 0
HasFailed s target holder target' holder' robot = Failed (near s) (robots s) (cell_of s) (cost s) robot (table target) (table holder) (table target') (table holder')

abbrev pub HasGrown : Setting → List (Option ℕ) → List (Option ℕ) → List (Option ℕ) → List (Option ℕ) → ℕ → Type 0
HasGrown s target holder target' holder' robot = Grown (near s) (robots s) (cell_of s) (cost s) robot (table target) (table holder) (table target') (table holder')

abbrev pub IsShut : Setting → List (Option ℕ) → List (Option ℕ) → ℕ → ℕ → Type 0
IsShut s target holder robot cell = Shut (near s) (robots s) (cell_of s) (cost s) (table target) (table holder) robot cell

-- the robot could not have the cell, since it was shut, or since the plan of the robot there failed
pub data Refused (s : Setting) (target holder : List (Option ℕ)) (robot cell : ℕ) : Type 0 where
  was_shut : IsShut s target holder robot cell → Refused s target holder robot cell
  pushed : (other : ℕ) (target' holder' : List (Option ℕ)) → Stands s other cell → HasFailed s (slice_set target robot (Some cell)) (slice_set holder cell (Some robot)) target' holder' other → Refused s target holder robot cell

-- the robot may try the cell next
pub record IsChoice (s : Setting) (target holder : List (Option ℕ)) (robot cell : ℕ) : Type 0 where
  pub legal : (cell ≡ cell_of s robot) ⊎ near s (cell_of s robot) cell
  pub first : (w : ℕ) → near s (cell_of s robot) w → cost s robot w < cost s robot cell → Unmoved s w → table holder w ≢ None
  pub drawn : cell ≢ cell_of s robot → (cost s robot cell < cost s robot (cell_of s robot)) ⊎ (table holder (cell_of s robot) ≢ None)

-- the cells that a robot tries, in their order; a cell may stand there twice
pub record IsChoices (s : Setting) (robot : ℕ) (cells : List ℕ) : Type 0 where
  pub five : length cells ≡ 5
  pub each : (k : ℕ) → k < length cells → (slice_index cells k ≡ cell_of s robot) ⊎ near s (cell_of s robot) (slice_index cells k)
  pub own : (k : ℕ) × (k < length cells) × (slice_index cells k ≡ cell_of s robot)
  pub all : (w : ℕ) → near s (cell_of s robot) w → (k : ℕ) × (k < length cells) × (slice_index cells k ≡ w)
  pub sorted : (j k : ℕ) → j < k → k < length cells → cost s robot (slice_index cells j) ≤ cost s robot (slice_index cells k)
  pub own_first : (k : ℕ) → k < length cells → slice_index cells k ≢ cell_of s robot → cost s robot (cell_of s robot) ≤ cost s robot (slice_index cells k) → (j : ℕ) × (j < k) × (slice_index cells j ≡ cell_of s robot)
  -- the first is not one that the law of ties puts after another as near
  pub tied : (law : TieLaw) → slice_get s.laws robot ≡ Some law → (d e : Dir) (b : ℕ) → IsNeighbourIn s.floor d (cell_of s robot) (slice_index cells 0) → IsNeighbourIn s.floor e (cell_of s robot) b →
      IsOpen s.door (cell_of s robot) b → cost s robot b ≤ cost s robot (slice_index cells 0) → Undercuts law e d → ⊥

-- the robot has its first choice, or was refused it
abbrev pub HasTried : Setting → List (Option ℕ) → List (Option ℕ) → List (Option ℕ) → ℕ → Type 0
HasTried s target holder target' robot =
    (cells : List ℕ) × IsChoices s robot cells × ((table target' robot ≡ Some (slice_index cells 0)) ⊎ Refused s target holder robot (slice_index cells 0))

-- a list names each robot
pub record NamesAll (s : Setting) (queue : List ℕ) : Type 0 where
  pub known : (j : ℕ) → j < length queue → slice_index queue j < robots s
  pub all : (r : ℕ) → r < robots s → (j : ℕ) × (j < length queue) × (slice_index queue j ≡ r)

-- a plan for all robots
pub record IsPlanned (s : Setting) (target holder target' holder' : List (Option ℕ)) (queue : List ℕ) (k : ℕ) : Type 0 where
  pub was : length target ≡ robots s
  pub targets : length target' ≡ robots s
  pub holders : length holder' ≡ length s.floor.letters
  pub tidy : TidyBoard s target' holder'
  pub edge : Edge (near s) (robots s) (cell_of s) (cost s) (table target') (table holder') (robots s)
  pub decided : (j : ℕ) → j < k → table target' (slice_index queue j) ≢ None
  pub tried : 0 < k → HasTried s target holder target' (slice_index queue 0)
  pub start : k ≡ 0 → (target' ≡ target) × (holder' ≡ holder)

-- the cells that a whole plan gives
abbrev pub IsChosen : Setting → List ℕ → List ℕ → Type 0
IsChosen s queue to =
    (target : List (Option ℕ)) × (holder : List (Option ℕ)) × (target0 : List (Option ℕ)) × (holder0 : List (Option ℕ)) × IsEmpty target0 × IsEmpty holder0
    × IsPlanned s target0 holder0 target holder queue (length queue)
    × ((r : ℕ) → r < robots s → table target r ≡ Some (slice_index to r))
