-- What a plan costs (Stern et al., SoCS 2019): a robot's cost is the time from which it stays where it ends.
use Rattle.std.specs.Prelude.{◌≡◌, ◌≢◌, ℕ, ◌+◌, ◌<◌, ◌≤◌, ◌⊎◌, List, length, slice_index, max, fold}
use Rattle.fleet_plans.specs.Valid.{place_at}

-- each placement has as many robots as the first
abbrev pub IsOneFleet : List (List ℕ) → Type 0
IsOneFleet places = (t : ℕ) → t < length places → length (place_at places t) ≡ length (place_at places 0)

-- the robot moves in the step from time t to time t + 1
abbrev pub IsMove : List (List ℕ) → ℕ → ℕ → Type 0
IsMove places r t = slice_index (place_at places (t + 1)) r ≢ slice_index (place_at places t) r

-- the number of the last step, of the first n, in which the robot moves; 0 where it never does
pub record IsCostBy (places : List (List ℕ)) (n r cost : ℕ) : Type 0 where
  pub within : cost ≤ n
  pub moved : (cost ≡ 0) ⊎ ((t : ℕ) × (cost ≡ t + 1) × IsMove places r t)
  pub rests : (t : ℕ) → cost ≤ t → t < n → slice_index (place_at places (t + 1)) r ≡ slice_index (place_at places t) r

-- each robot's cost, by number, after the first n steps
pub record AreCostsBy (places : List (List ℕ)) (n : ℕ) (costs : List ℕ) : Type 0 where
  pub each_one : length costs ≡ length (place_at places 0)
  pub cost : (r : ℕ) → r < length costs → IsCostBy places n r (slice_index costs r)

-- the greatest of them, 0 where there is none
abbrev pub greatest : List ℕ → ℕ
greatest costs = fold max 0 costs

-- what a step to this time makes of a robot's cost
abbrev pub IsNoted : List ℕ → List ℕ → ℕ → ℕ → ℕ → ℕ → Type 0
IsNoted from to time r old new =
    ((slice_index to r ≡ slice_index from r) × (new ≡ old)) ⊎ ((slice_index to r ≢ slice_index from r) × (new ≡ time))
