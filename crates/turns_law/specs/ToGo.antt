-- How many ticks a robot that has the turn still needs, where others leave its goal's room before it.
use Rattle.std.specs.Prelude.{◌≡◌, ◌≢◌, ℕ, ◌+◌, ◌-◌, ◌*◌, ◌≤◌, max, min, ◌==◌, ◌&&◌, not, Bool, List, length, slice_index}
use Rattle.std.specs.List.{count_by, range_with_len}
use Rattle.fleet_grid.specs.Floor.{Floor, IsFloor, IsNeighbour}
use Rattle.fleet_grid.specs.Walk.{IsDistance}
use Rattle.fleet_planner.specs.Lending.{IsInside, IsNearestInside}
use Rattle.turns_law.specs.Turns.{Turns}

-- whether a robot other than `but` is in the room of this door
abbrev pub is_inside : (door cells : List ℕ) → (room but robot : ℕ) → Bool
is_inside door cells room but robot = not (robot == but) && (slice_index door (slice_index cells robot) == room)

-- how many others are there
abbrev pub inmates : (door cells : List ℕ) → (room but : ℕ) → ℕ
inmates door cells room but = count_by (is_inside door cells room but) (range_with_len 0 (length cells))

-- the goal is in a room
abbrev pub HasRoom : Turns → ℕ → Type 0
HasRoom t goal = slice_index t.door goal ≢ slice_index t.core goal

-- the numbers that a bound on waits is made of: no two cells are further apart than `reach`; `depth` tells by each door how far a cell of its
-- room is from the mouth at most; and `turn` is enough for one errand of one robot: the reach, and a way out of the room for each robot that may
-- be in it
pub record AreLimits (m : Floor) (t : Turns) (reach : ℕ) (depth : ℕ → ℕ) (turn : ℕ) : Type 0 where
  pub positive : 1 ≤ reach
  pub within : (a b d : ℕ) → IsDistance (IsNeighbour m) a b d → d ≤ reach
  pub deep : (c : ℕ) → IsFloor m c → HasRoom t c → slice_index t.away c ≤ slice_index t.away (slice_index t.mouth (slice_index t.door c)) + depth (slice_index t.door c)
  pub least : reach ≤ turn
  pub rooms : (c : ℕ) → IsFloor m c → HasRoom t c → reach + min (t.robots - 1) (slice_index t.size (slice_index t.door c)) * depth (slice_index t.door c) ≤ turn

-- this number of ticks is enough for the robot, while it has the turn, to go from its cell to the goal
pub data IsToGo (m : Floor) (t : Turns) (reach : ℕ) (depth : ℕ → ℕ) (cells : List ℕ) (robot goal ticks : ℕ) : Type 0 where
  -- nobody else is in the goal's room, or it is in none: its own way
  own : (far : ℕ) → (HasRoom t goal → (r : ℕ) → IsInside t.door cells (slice_index t.door goal) robot r → ⊥) →
      IsDistance (IsNeighbour m) (slice_index cells robot) goal far → ticks ≡ max 1 far → IsToGo m t reach depth cells robot goal ticks
  -- others are there: first the nearest to the mouth leaves, then each of the others, and then it has its own way
  others : (x near : ℕ) → HasRoom t goal → IsNearestInside t.door t.away cells (slice_index t.door goal) robot x →
      slice_index t.away (slice_index t.mouth (slice_index t.door goal)) + near ≡ slice_index t.away (slice_index cells x) →
      ticks ≡ reach + (inmates t.door cells (slice_index t.door goal) robot - 1) * depth (slice_index t.door goal) + near →
      IsToGo m t reach depth cells robot goal ticks
