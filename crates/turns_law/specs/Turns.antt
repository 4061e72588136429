-- The rooms of a map, and how far its cells are from their cores: what robots that take turns in rooms are planned by.
use Rattle.std.specs.Prelude.{◌≡◌, ℕ, List, slice_index}
use Rattle.fleet_grid.specs.Floor.{Floor, IsFloor, IsNeighbour}
use Rattle.fleet_grid.specs.Walk.{IsDistance}
use Rattle.fleet_bridge.specs.Rooms.{AreRoomsBy}

-- lists by cells, and the number of robots
pub record Turns : Type 0 where
  -- one cell for all cells of a part
  pub core : List ℕ
  -- the door of the cell's room, or the core where it is in none
  pub door : List ℕ
  -- by door, the cell next to it outside of the room
  pub mouth : List ℕ
  -- by door, how many cells the room has
  pub size : List ℕ
  -- by core, for how many robots the cells of its part are served
  pub capacity : List ℕ
  -- how far the cell is from its core
  pub away : List ℕ
  pub robots : ℕ

-- neighbours have one core, and `away` is each cell's distance from its own
pub record AreAway (m : Floor) (core away : List ℕ) : Type 0 where
  pub same : (a b : ℕ) → IsNeighbour m a b → slice_index core a ≡ slice_index core b
  pub measured : (c : ℕ) → IsFloor m c → IsDistance (IsNeighbour m) c (slice_index core c) (slice_index away c)

-- they are those of the map
pub record AreTurns (m : Floor) (t : Turns) : Type 0 where
  pub rooms : AreRoomsBy m (slice_index t.core) (slice_index t.door) (slice_index t.mouth) (slice_index t.size) (slice_index t.capacity)
  pub away : AreAway m t.core t.away
