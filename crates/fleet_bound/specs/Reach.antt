-- How far apart two cells of a map may be.
use Rattle.std.specs.Prelude.{◌≡◌, ℕ, ◌≤◌, max, fold, ◌⊎◌, map, length, unwrap_or}
use Rattle.std.specs.List.{range_with_len}
use Rattle.fleet_grid.specs.Floor.{Floor, IsNeighbour}
use Rattle.fleet_grid.specs.Walk.{IsDistance}
use Rattle.fleet_grid.specs.Distance.{distance}

-- the greatest distance of a cell to one that a walk joins to it
unfoldable pub farthest : Floor → ℕ → ℕ
farthest m a = fold max 0 (map (λ b. unwrap_or (distance m a b) 0) (range_with_len 0 (length m.letters)))

-- the greater of 1 and the greatest distance of two cells that a walk joins
unfoldable pub reach : Floor → ℕ
reach m = fold max 1 (map (farthest m) (range_with_len 0 (length m.letters)))

-- the same, by walks: no two cells are further apart, and two are so far apart, unless none are further than 1
pub record IsReach (m : Floor) (reach : ℕ) : Type 0 where
  pub positive : 1 ≤ reach
  pub within : (a b d : ℕ) → IsDistance (IsNeighbour m) a b d → d ≤ reach
  pub met : (reach ≡ 1) ⊎ ((a : ℕ) × (b : ℕ) × IsDistance (IsNeighbour m) a b reach)
