-- How a field lies in its padded list.
use Rattle.std.specs.Prelude.{◌≡◌, ℕ, ◌+◌, ◌*◌, ◌<◌, ◌≤◌, List, Option, Some, None, length, map, slice_index, cond, nat_lt}
use Rattle.std.specs.List.{range_with_len}
use Rattle.fleet_grid.specs.Padded.{place}

-- 4294967294 is a wall, and 4294967295 is not reached
abbrev pub away_at : ℕ → Option ℕ
away_at d = cond (nat_lt d 4294967294) (Some d) None

-- the distances of the cells, each read at its place
abbrev pub aways : ℕ → ℕ → ℕ → List ℕ → List (Option ℕ)
aways height width stride dist = map (λ cell. away_at (slice_index dist (place width stride cell))) (range_with_len 0 (height * width))

-- each cell has its place in the list
pub record IsLaidOut (height width stride : ℕ) (dist : List ℕ) : Type 0 where
  pub wide : 0 < width
  pub apart : width < stride
  pub few : height * width ≤ 1048576
  pub small : length dist < 1073741824
  pub size : length dist ≡ (height + 2) * stride

-- the inverse of a width in 1073741824th parts, rounded up: so exact that it stands for a division of each cell
pub record IsInverse (width inverse : ℕ) : Type 0 where
  pub wide : 0 < width
  pub slim : width ≤ 1024
  pub small : inverse ≤ 1073741825
  pub low : 1073741824 ≤ inverse * width
  pub high : inverse * width ≤ 1073741824 + width
