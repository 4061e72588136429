-- How often the ways change from one floor cell to the next.
use Rattle.std.specs.Prelude.{ℕ, ◌+◌, ◌*◌, ◌<◌, ◌==◌, not, cond, List, [], ◌∷◌}
use Rattle.std.specs.Int.{from_bool}
use Rattle.fleet_grid.specs.Floor.{Floor}
use Rattle.fleet_grid.specs.Counts.{floor_count}
use Rattle.fleet_grid.specs.Ways.{AreWays}

-- the ways of the last cell that has some, after a cell with these
abbrev pub last_ways : ℕ → ℕ → ℕ
last_ways before ways = cond (ways == 0) before ways

-- how many cells have other ways than the last one before them, of those that have any
abbrev pub turns_after : ℕ → List ℕ → ℕ
turns_after before [] = 0
turns_after before (ways ∷ rest) = from_bool (not (last_ways before ways == before)) + turns_after (last_ways before ways) rest

-- in more than 11 of 20 floor cells the ways are not those of the floor cell before
pub record IsRagged (m : Floor) : Type 0 where
  pub ways : List ℕ
  pub led : AreWays m ways
  pub often : 11 * floor_count m < 20 * turns_after 0 ways
