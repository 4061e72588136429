-- How far robots have gone by their tracks.
use Rattle.std.specs.Prelude.{◌≡◌, ℕ, ◌+◌, ◌<◌, ◌≤◌, ◌⊎◌, ◌^◌, List, [], length, slice_index_or}
use Rattle.fleet_grid.specs.Floor.{Floor}
use Rattle.fleet_plans.specs.Judge.{Judged}
use Rattle.fleet_plans.specs.inside.Given.{IsGiven}
use Rattle.fleet_plans.specs.Valid.{place_at}
use Rattle.fleet_plans.specs.Tracks.{IsMoved}

-- the length of the longest of the first n tracks
pub record IsLongest (tracks : List (List ℕ)) (n len : ℕ) : Type 0 where
  pub most : (r : ℕ) → r < n → length (slice_index_or tracks r []) ≤ len
  pub one : (len ≡ 0) ⊎ ((r : ℕ) × (r < length tracks) × (length (slice_index_or tracks r []) ≡ len))

-- the placements after each of the first n steps
pub record AreSteps (w h : ℕ) (starts : List ℕ) (tracks places : List (List ℕ)) (n : ℕ) : Type 0 where
  pub count : length places ≡ n + 1
  pub begin : place_at places 0 ≡ starts
  pub step : (t : ℕ) → t < n → IsMoved w h tracks t (place_at places t) (place_at places (t + 1))

-- the judge has the placements after each of the first n steps, and this is the last one
abbrev pub IsGone : Floor → ℕ → ℕ → List ℕ → List (List ℕ) → ℕ → List ℕ → Judged → Type 0
IsGone m w h starts tracks n place judge = IsGiven m (λ places. AreSteps w h starts tracks places n × (place_at places n ≡ place)) judge

-- and of all of its steps
abbrev pub IsWalkedTo : Floor → ℕ → ℕ → List ℕ → List (List ℕ) → ℕ → Judged → Type 0
IsWalkedTo m w h starts tracks n judge = IsGiven m (λ places. AreSteps w h starts tracks places n) judge

-- the judge has the placements of some of the first steps, and this is the last one
pub record IsStopped (m : Floor) (w h : ℕ) (starts : List ℕ) (tracks : List (List ℕ)) (steps : ℕ) (place : List ℕ) (judge : Judged) : Type 0 where
  pub time : ℕ
  pub few : time ≤ steps
  pub gone : IsGone m w h starts tracks time place judge
  pub robots : length place < 2 ^ 32
