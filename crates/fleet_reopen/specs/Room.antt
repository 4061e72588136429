-- Whether waits leave room for the walks that robots may have to wait for.
use Rattle.std.specs.Prelude.{ℕ, ◌≡◌, ◌+◌, ◌*◌, ◌≤◌, List, Option, Some, None, max, length, count_by, slice_index, slice_index_or}
use Rattle.std.specs.List.{range_with_len}
use Rattle.fleet_grid.specs.Floor.{Floor, IsNeighbour}
use Rattle.fleet_grid.specs.Walk.{IsBridgeless, IsDistance}
use Rattle.fleet_history.specs.History.{History, place}
use Rattle.fleet_pibt.specs.Eldest.{IsEldest}
use Rattle.fleet_planner.specs.Planned.{waits, goals, goal_of}
use Rattle.fleet_bound.specs.Reach.{reach}
use Rattle.fleet_bound.specs.Waiting.{comes_before}

-- how many robots come before the robot r, which has waited w
abbrev pub count_before : List (Option ℕ) → ℕ → ℕ → ℕ
count_before waits r w = count_by (λ q. comes_before (slice_index_or waits q None) q w r) (range_with_len 0 (length waits))

-- each robot has room to wait while the eldest walks this far, and each robot that comes before it a longest way
abbrev pub HaveRoom : List (Option ℕ) → ℕ → ℕ → Type 0
HaveRoom waits far reach = (r w : ℕ) → slice_index_or waits r None ≡ Some w →
    w + max 1 far + count_before waits r w * reach ≤ length waits * reach

-- the waits leave no room for the walks of the robots that come before: the eldest walks `far` edges to its goal, and `apart`
-- lies between the longest way to this goal and the longest way of the map
pub record HasNoRoom {A : Type 0} (m : Floor) (h : History A) : Type 0 where
  pub eldest : ℕ
  pub goal : ℕ
  pub far : ℕ
  pub apart : ℕ
  pub first : IsEldest (waits h) eldest
  pub aims : goal_of (goals h) eldest ≡ Some goal
  pub away : (d : ℕ) → IsDistance (IsNeighbour m) (slice_index (place h) eldest) goal d → d ≡ far
  pub wide : (cell d : ℕ) → IsDistance (IsNeighbour m) cell goal d → d ≤ apart
  pub within : apart ≤ reach m
  pub full : HaveRoom (waits h) far apart → ⊥

-- the map has no bridge, and the waits leave no room for these walks
abbrev pub WaitTooLong : {A : Type 0} → Floor → History A → Type 0
WaitTooLong m h = IsBridgeless (IsNeighbour m) × HasNoRoom m h
