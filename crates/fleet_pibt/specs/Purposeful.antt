-- The purposeful step: no free nearer cell is passed over, and who steps away was pushed by one that comes nearer.
use Rattle.std.specs.Prelude.{◌≡◌, ◌≢◌, ℕ, ◌<◌, Option, List, length, slice_index}
use Rattle.fleet_grid.specs.Floor.{Floor, IsNeighbour}
use Rattle.fleet_pibt.specs.Goals.{aim, IsNearer}

-- no robot is on the cell
abbrev pub IsEmptyIn : List ℕ → ℕ → Type 0
IsEmptyIn place cell = (r : ℕ) → r < length place → slice_index place r ≢ cell

-- the robot moves nearer to its goal, or another one takes its old cell that is itself drawn: going back so from taker
-- to taker one reaches a robot that moves nearer
pub data IsDrawn (m : Floor) (goals : ℕ → Option ℕ) (from to : List ℕ) : ℕ → Type 0 where
  nearer : (r : ℕ) → r < length from → IsNearer m (aim from goals r) (slice_index to r) (slice_index from r) →
      IsDrawn m goals from to r
  taken : (r taker : ℕ) → taker < length from → taker ≢ r → slice_index to taker ≡ slice_index from r →
      IsDrawn m goals from to taker → IsDrawn m goals from to r

-- the purposeful step from these cells to those, of robots with these goals
pub record IsPurposeful (m : Floor) (goals : ℕ → Option ℕ) (from to : List ℕ) : Type 0 where
  -- no robot passes over a neighbour of its old cell that is nearer to its goal than its new cell, and empty before
  -- and after
  pub none_passed_over : (r w : ℕ) → r < length from → IsNeighbour m (slice_index from r) w →
      IsNearer m (aim from goals r) w (slice_index to r) → IsEmptyIn from w → IsEmptyIn to w → ⊥
  -- a robot that moves comes nearer to its goal, or was pushed
  pub drawn : (r : ℕ) → r < length from → slice_index to r ≢ slice_index from r → IsDrawn m goals from to r
