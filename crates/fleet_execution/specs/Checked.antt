-- What is found of cells that may be a further step.
use Rattle.std.specs.Prelude.{◌≡◌, ◌≢◌, ℕ, ◌<◌, ◌≤◌, ◌⊎◌, List, length, slice_index}
use Rattle.fleet_execution.specs.Desk.{Desk}

-- the cells of the first n robots are on the map, and each is marked with its robot; so no two are the same
pub record AreMarked (to marks : List ℕ) (n : ℕ) : Type 0 where
  pub inside : (r : ℕ) → r < n → slice_index to r < length marks
  pub mark : (r : ℕ) → r < n → slice_index marks (slice_index to r) ≡ r

-- the robot's cell is not one of the map's, or a robot before it comes to it
abbrev pub IsOff : List ℕ → ℕ → ℕ → Type 0
IsOff to cells r = (cells ≤ slice_index to r) ⊎ ((q : ℕ) × (q < r) × (slice_index to q ≡ slice_index to r))

-- robots r and q come to each other's last planned cells
pub record Exchanges (d : Desk) (to : List ℕ) (r q : ℕ) : Type 0 where
  pub inside : q < d.count
  pub other : q ≢ r
  pub there : slice_index to q ≡ (d.robot r).last
  pub back : slice_index to r ≡ (d.robot q).last

-- robots stand on different cells of the map
pub record IsPlacement (cells : ℕ) (placement : List ℕ) : Type 0 where
  pub inside : (r : ℕ) → r < length placement → slice_index placement r < cells
  pub distinct : (r q : ℕ) → r < length placement → q < length placement → slice_index placement r ≡ slice_index placement q → r ≡ q
