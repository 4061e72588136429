-- Robots that follow paths of cells: one for each robot, which stays on the last cell of its path.
use Rattle.std.specs.Prelude.{◌≡◌, ℕ, ◌-◌, ◌<◌, ◌≤◌, ◌⊎◌, List, [], length, slice_index, slice_index_or, min}
use Rattle.fleet_plans.specs.Valid.{place_at}

-- the cell of a path at a time
abbrev pub path_at : List ℕ → ℕ → ℕ
path_at path t = slice_index path (min t (length path - 1))

-- each robot is where its path has it at a time
pub record ArePlaced (paths : List (List ℕ)) (t : ℕ) (place : List ℕ) : Type 0 where
  pub each_one : length place ≡ length paths
  pub cell : (r : ℕ) → r < length paths → slice_index place r ≡ path_at (slice_index_or paths r []) t

-- the placements of robots that follow these paths, to the end of the longest
pub record AreFollowed (paths places : List (List ℕ)) : Type 0 where
  pub placed : (t : ℕ) → t < length places → ArePlaced paths t (place_at places t)
  pub whole : (r : ℕ) → r < length paths → length (slice_index_or paths r []) ≤ length places
  pub no_more : (length places ≡ 1) ⊎ ((r : ℕ) × (r < length paths) × (length (slice_index_or paths r []) ≡ length places))
