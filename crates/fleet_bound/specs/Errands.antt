-- A robot's errands over a run of advancing ticks.
use Rattle.std.specs.Prelude.{◌≡◌, ℕ, ◌+◌, ◌-◌, ◌<◌, ◌≤◌, Bool, true, false, Some}
use Rattle.fleet_bound.specs.Waiting.{Moment, IsWithin, IsAdvance, IsPause}

-- a robot's errands up to a certain one: this many are unfinished, and while one is, the robot has a front
pub record IsQueued (n reach r : ℕ) (m : Moment) (left : ℕ) : Type 0 where
  pub known : r < n
  pub within : IsWithin n reach m
  pub fronted : 0 < left → (w : ℕ) × (m.wait r ≡ Some w)

-- From a moment with `count` such errands there came this moment, with `left` of them, by `ticks` advancing ticks and any
-- number of pauses. An arrival of r takes one of them away, a withdrawal one or, if it is of the last, all.
pub data Follows (n reach r : ℕ) (from : Moment) (count : ℕ) : Moment → ℕ → ℕ → Type 0 where
  begins : IsQueued n reach r from count → Follows n reach r from count from count 0
  ticked : {m : Moment} {left ticks : ℕ} (now : Moment) (few more : ℕ) (arrives : ℕ → Bool) →
      Follows n reach r from count m left ticks → IsAdvance n m now arrives →
      (arrives r ≡ true → few ≤ left - 1) → (arrives r ≡ false → few ≤ left) → IsQueued n reach r now few →
      more ≡ ticks + 1 → Follows n reach r from count now few more
  paused : {m : Moment} {left ticks : ℕ} (now : Moment) (few : ℕ) → Follows n reach r from count m left ticks →
      IsPause n m now → few ≤ left → IsQueued n reach r now few → Follows n reach r from count now few ticks
