-- A step on a map with a door: an edge that is shut from one side. Without a door each definition is the one of its name without
-- `WithDoor`.
use Rattle.std.specs.Prelude.{⊤, ◌≡◌, ◌≢◌, ℕ, ◌<◌, ◌⊎◌, Option, Some, None, List, length, slice_get, slice_index}
use Rattle.fleet_grid.specs.Floor.{Floor, IsNeighbour, IsNeighbourIn}
use Rattle.fleet_grid.specs.Step.{IsConflictFree}
use Rattle.fleet_grid.specs.Walk.{IsOnSide}
use Rattle.fleet_grid.specs.declared.dir.Dir.{Dir}
use Rattle.fleet_hooks.specs.declared.law.TieLaw.{TieLaw}
use Rattle.fleet_pibt.specs.Advancing.{Advances}
use Rattle.fleet_pibt.specs.Eldest.{IsEldest}
use Rattle.fleet_pibt.specs.Goals.{aim, IsNearer}
use Rattle.fleet_pibt.specs.Purposeful.{IsEmptyIn, IsDrawn}
use Rattle.fleet_pibt.specs.Ties.{Undercuts}
use Rattle.fleet_pibt.specs.declared.door.Door.{Door}

-- no door keeps a robot on a from going to b
abbrev pub IsOpen : Option Door → (a b : ℕ) → Type 0
IsOpen None a b = ⊤
IsOpen (Some door) a b = door.from ≡ a → door.to ≡ b → ⊥

-- an edge that a robot may cross from a to b
abbrev pub IsPassage : Floor → Option Door → (a b : ℕ) → Type 0
IsPassage m door a b = IsNeighbour m a b × IsOpen door a b

-- each robot stays, or crosses an edge that it may cross
abbrev pub KeepToPassages : Floor → Option Door → (from to : List ℕ) → Type 0
KeepToPassages m door from to = (r : ℕ) → r < length from → (slice_index to r ≡ slice_index from r) ⊎ IsPassage m door (slice_index from r) (slice_index to r)

-- a robot stands on each cell to which passages lead from w, without the edge of the robot's cell and w, and none of these
-- is the robot's cell
pub record IsFullWithDoor (m : Floor) (door : Option Door) (from : List ℕ) (cell w : ℕ) : Type 0 where
  pub apart : IsOnSide (IsPassage m door) cell w cell → ⊥
  pub full : (c : ℕ) → IsOnSide (IsPassage m door) cell w c → (r : ℕ) × (r < length from) × (slice_index from r ≡ c)

-- where neighbours of the robot's cell are nearer to its goal, the robot may go to one of them
abbrev pub HasPassage : Floor → Option Door → (goal cell : ℕ) → Type 0
HasPassage m door goal cell = (w : ℕ) → IsNeighbour m cell w → IsNearer m goal w cell → (v : ℕ) × IsPassage m door cell v × IsNearer m goal v cell

-- the robot may go to a cell that is nearer to its goal, if one is next to it, and none of these is full beyond
pub record HasWayWithDoor (m : Floor) (door : Option Door) (from : List ℕ) (goal cell : ℕ) : Type 0 where
  pub passage : HasPassage m door goal cell
  -- none of the nearer neighbours to which it may go is full beyond
  pub free : (w : ℕ) → IsPassage m door cell w → IsNearer m goal w cell → IsFullWithDoor m door from cell w → ⊥

-- the purposeful step of robots with these goals, where the door is shut
pub record IsPurposefulWithDoor (m : Floor) (door : Option Door) (goals : ℕ → Option ℕ) (from to : List ℕ) : Type 0 where
  -- no robot passes over a cell to which it may go that is nearer to its goal than its new cell, and empty before and after
  pub none_passed_over : (r w : ℕ) → r < length from → IsPassage m door (slice_index from r) w →
      IsNearer m (aim from goals r) w (slice_index to r) → IsEmptyIn from w → IsEmptyIn to w → ⊥
  -- a robot that moves comes nearer to its goal, or was pushed
  pub drawn : (r : ℕ) → r < length from → slice_index to r ≢ slice_index from r → IsDrawn m goals from to r

-- the robot does not leave to a nearer cell in a direction d, where another nearer cell to which it may go lies in a direction
-- that comes before d
abbrev pub IsByLawWithDoor : Floor → Option Door → TieLaw → (goal old new : ℕ) → Type 0
IsByLawWithDoor m door law goal old new =
    (d e : Dir) (other : ℕ) →
    IsNeighbourIn m d old new → IsNearer m goal new old →
    IsNeighbourIn m e old other → IsOpen door old other → IsNearer m goal other old →
    Undercuts law e d → ⊥

-- a step of robots with these waits, goals and laws of ties
pub record IsSteppedWithDoor
    (m : Floor)
    (door : Option Door)
    (waits : List (Option ℕ))
    (goals : ℕ → Option ℕ)
    (laws : List TieLaw)
    (from to : List ℕ)
    : Type 0 where
  pub conflict_free : IsConflictFree m from to
  -- no robot goes through the shut door
  pub passes : KeepToPassages m door from to
  pub purposeful : IsPurposefulWithDoor m door goals from to
  pub advances : (e g : ℕ) → IsEldest waits e → goals e ≡ Some g → HasWayWithDoor m door from g (slice_index from e) →
      Advances m g (slice_index from e) (slice_index to e)
  pub by_law : (e g : ℕ) (law : TieLaw) → IsEldest waits e → goals e ≡ Some g → HasWayWithDoor m door from g (slice_index from e) →
      slice_get laws e ≡ Some law → IsByLawWithDoor m door law g (slice_index from e) (slice_index to e)
