-- The bound on waits, and what keeps it.
use Rattle.std.specs.Prelude.{◌≡◌, ℕ, ◌+◌, ◌*◌, ◌<◌, ◌≤◌, max, count_by, Some, slice_index}
use Rattle.std.specs.List.{range_with_len}
use Rattle.fleet_grid.specs.Floor.{Floor, IsNeighbour}
use Rattle.fleet_grid.specs.Walk.{IsDistance}
use Rattle.fleet_history.specs.History.{History, robots, place}
use Rattle.fleet_history.specs.Waits.{wait}
use Rattle.fleet_pibt.specs.Eldest.{IsEldest}
use Rattle.fleet_planner.specs.Planned.{waits, goals, goal_of}
use Rattle.fleet_bound.specs.Waiting.{comes_before}
use Rattle.fleet_bound.specs.Reach.{reach}

-- robots times reach
abbrev pub wait_bound : {A : Type 0} → Floor → History A → ℕ
wait_bound m h = robots h * reach m

-- every wait is below it
abbrev pub WaitsAreBounded : {A : Type 0} → Floor → History A → Type 0
WaitsAreBounded m h = (r w : ℕ) → r < robots h → wait h r ≡ Some w → w < wait_bound m h

-- how many robots come before the robot r, which has waited w: they have waited longer, or as long with a lesser number
abbrev pub count_before : {A : Type 0} → History A → ℕ → ℕ → ℕ
count_before h r w = count_by (λ q. comes_before (wait h q) q w r) (range_with_len 0 (robots h))

-- the bound is kept: while the eldest has so far to go, each robot has room to wait for that walk and for a longest one of
-- each robot that comes before it
pub record KeepsBound {A : Type 0} (m : Floor) (h : History A) : Type 0 where
  pub each : (r w eldest goal far : ℕ) → r < robots h → wait h r ≡ Some w →
      IsEldest (waits h) eldest → goal_of (goals h) eldest ≡ Some goal →
      IsDistance (IsNeighbour m) (slice_index (place h) eldest) goal far →
      w + max 1 far + count_before h r w * reach m ≤ wait_bound m h
