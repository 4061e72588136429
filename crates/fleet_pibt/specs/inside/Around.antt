-- What a robot sees from its cell: the cells next to it, and which of them are nearer to its goal.
use Rattle.std.specs.Prelude.{◌≡◌, ◌≢◌, ℕ, ◌+◌, List, length, slice_get, slice_index, Option, Some, None, IsSome}
use Rattle.fleet_grid.specs.Floor.{Floor, IsNeighbourIn}
use Rattle.fleet_grid.specs.Ways.{IsWay, AreNearer, AreOpen}
use Rattle.fleet_grid.specs.declared.dir.Dir.{Dir}
use Rattle.fleet_grid.specs.declared.dir.Dir.TheVariants.{North, East, South, West}
use Rattle.fleet_pibt.specs.Door.{IsOpen}
use Rattle.fleet_pibt.specs.declared.door.Door.{Door}
use Rattle.fleet_pibt.specs.inside.Setting.{Setting, cell_of, cost, IsScene}
use Rattle.fleet_pibt.specs.declared.around.Around.{Around}

-- the floor neighbour of the cell `own` in a direction, or where there is none `own` itself
pub record IsSpot (m : Floor) (own : ℕ) (dir : Dir) (cell : ℕ) : Type 0 where
  pub there : (w : ℕ) → IsNeighbourIn m dir own w → cell ≡ w
  pub beside : cell ≢ own → IsNeighbourIn m dir own cell

-- the same, where a floor neighbour to which a robot on `own` may not go counts as none
pub record IsExit (m : Floor) (door : Option Door) (own : ℕ) (dir : Dir) (cell : ℕ) : Type 0 where
  pub there : (w : ℕ) → IsNeighbourIn m dir own w → IsOpen door own w → cell ≡ w
  pub beside : cell ≢ own → IsNeighbourIn m dir own cell
  pub passes : cell ≢ own → IsOpen door own cell

abbrev pub cell_in : Around → Dir → ℕ
cell_in around North = around.north
cell_in around East = around.east
cell_in around South = around.south
cell_in around West = around.west

pub record IsAround (m : Floor) (door : Option Door) (own : ℕ) (around : Around) : Type 0 where
  pub here : around.own ≡ own
  pub beside : (dir : Dir) → IsExit m door own dir (cell_in around dir)

-- of the ways that a robot sees from its cell those lead nearer to its goal, and an idle robot has none; the exits lead to
-- floor neighbours
pub record IsAsked (m : Floor) (goal : Option ℕ) (distance : ℕ → Option ℕ) (own nearer exits : ℕ) : Type 0 where
  pub tells : IsSome goal → AreNearer m distance own nearer
  pub idle : goal ≡ None → nearer ≡ 0
  pub opens : AreOpen m own exits

-- the list has each robot's outlook
abbrev pub AreAsked : Floor → (ℕ → Option ℕ) → (ℕ → ℕ → Option ℕ) → List ℕ → List Around → Type 0
AreAsked m goals distance from arounds = (r : ℕ) (around : Around) → slice_get arounds r ≡ Some around → IsAsked m (goals r) (distance r) (slice_index from r) around.nearer.byte around.exits.byte

-- the list has for each robot what it sees
pub record AreArounds (m : Floor) (door : Option Door) (goals : ℕ → Option ℕ) (distance : ℕ → ℕ → Option ℕ) (from : List ℕ) (arounds : List Around) : Type 0 where
  pub same_length : length arounds ≡ length from
  pub each : (r : ℕ) (around : Around) → slice_get arounds r ≡ Some around → IsAround m door (slice_index from r) around
  pub asked : AreAsked m goals distance from arounds

-- what a neighbour in that direction costs, compared with the own cell
pub record IsRated (nearer : ℕ) (dir : Dir) (cost own : ℕ) : Type 0 where
  pub near : IsWay nearer dir → cost + 1 ≡ own
  pub far : (IsWay nearer dir → ⊥) → cost ≡ own + 1

-- the ways that each robot sees tell what its neighbours cost
abbrev pub AreRated : Setting → List Around → Type 0
AreRated s arounds =
    (r : ℕ) (around : Around) → slice_get arounds r ≡ Some around →
    (dir : Dir) (w : ℕ) → IsNeighbourIn s.floor dir (cell_of s r) w → IsRated around.nearer.byte dir (cost s r w) (cost s r (cell_of s r))

-- a step's setting, with what its robots see
pub record IsWhole (s : Setting) (arounds : List Around) : Type 0 where
  pub scene : IsScene s
  pub tied : length s.laws ≡ length s.from
  pub gathered : AreArounds s.floor s.door s.goals s.distance s.from arounds
  pub rated : AreRated s arounds
