-- How long robots wait, apart from any world: only waits, distances and arrivals are known here.
-- A robot waits while it has a front errand. There are n robots, 0 to n - 1, and no distance is above reach.
use Rattle.std.specs.Prelude.{◌≡◌, ℕ, ◌+◌, ◌*◌, ◌<◌, ◌≤◌, max, Bool, true, false, nat_lt, ◌==◌, ◌&&◌, ◌||◌, Option, Some, None}
use Rattle.std.specs.List.{count_by, range_with_len}
use Rattle.fleet_pibt.specs.Eldest.{IsEldestOf}

-- one moment of a fleet
pub record Moment : Type 0 where
  -- how long each robot that has a front has waited
  pub wait : ℕ → Option ℕ
  -- how far each robot that has a front is from its goal
  pub away : ℕ → ℕ

-- the test of ComesBefore, as far as it is counted: whether a robot q with this wait comes before the robot r that has waited w
abbrev pub comes_before : Option ℕ → ℕ → ℕ → ℕ → Bool
comes_before None q w r = false
comes_before (Some v) q w r = nat_lt w v || ((v == w) && nat_lt q r)

-- how many robots come before the robot r that has waited w
abbrev pub count_before : ℕ → Moment → ℕ → ℕ → ℕ
count_before n m w r = count_by (λ q. comes_before (m.wait q) q w r) (range_with_len 0 n)

-- the robot that comes before all others
abbrev pub IsEldest : ℕ → Moment → ℕ → Type 0
IsEldest n m e = IsEldestOf m.wait n e

-- each robot that has a front is at most reach from its goal
pub record IsWithin (n reach : ℕ) (m : Moment) : Type 0 where
  pub positive : 0 < reach
  pub near : (r w : ℕ) → r < n → m.wait r ≡ Some w → m.away r ≤ reach

-- ---- what changes from one moment to the next

-- a tick in which the eldest comes nearer, or arrives
pub record IsAdvance (n : ℕ) (before after : Moment) (arrives : ℕ → Bool) : Type 0 where
  -- who has no front gets none
  pub idle : (r : ℕ) → r < n → before.wait r ≡ None → after.wait r ≡ None
  -- who does not arrive waits on
  pub waits_on : (r w : ℕ) → r < n → before.wait r ≡ Some w → arrives r ≡ false → after.wait r ≡ Some (w + 1)
  -- who arrives has no front, or begins to wait for the next
  pub anew : (r w v : ℕ) → r < n → before.wait r ≡ Some w → arrives r ≡ true → after.wait r ≡ Some v → v ≡ 0
  -- the eldest, if it does not arrive, is one nearer to the goal that it keeps
  pub nearer : (e : ℕ) → IsEldest n before e → arrives e ≡ false → (0 < after.away e) × (after.away e + 1 ≡ before.away e)

-- what is no tick: whatever happens between two of them, and the beginning of another chapter
pub record IsPause (n : ℕ) (before after : Moment) : Type 0 where
  -- who has a front keeps it and stays
  pub kept : (r w : ℕ) → r < n → before.wait r ≡ Some w → (after.wait r ≡ Some w) × (after.away r ≡ before.away r)
  -- who gets a front begins to wait
  pub fresh : (r v : ℕ) → r < n → before.wait r ≡ None → after.wait r ≡ Some v → v ≡ 0

-- ---- the kept invariant

-- with k robots before a robot, its wait, what the eldest still has to go, and k times reach are at most n times reach
pub record IsBounded (n reach : ℕ) (m : Moment) : Type 0 where
  pub each : (r w e : ℕ) → r < n → m.wait r ≡ Some w → IsEldest n m e →
      w + max 1 (m.away e) + count_before n m w r * reach ≤ n * reach
