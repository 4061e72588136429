-- A fleet whose robots take turns, from tick to tick: where robots get their goals from is left open.
use Rattle.std.specs.Prelude.{◌≡◌, ◌≢◌, ℕ, ◌+◌, ◌*◌, ◌^◌, ◌<◌, ◌≤◌, ◌↔◌, nat_lt, List, Bool, Option, Some, None, IsSome, if◌then◌else◌, count_by, length, slice_index}
use Rattle.std.specs.List.{range_with_len}
use Rattle.fleet_grid.specs.Floor.{Floor, IsNeighbour}
use Rattle.fleet_grid.specs.Step.{IsPlacement}
use Rattle.fleet_grid.specs.Walk.{AreJoined}
use Rattle.fleet_hooks.specs.declared.law.TieLaw.{TieLaw}
use Rattle.fleet_pibt.specs.Eldest.{IsEldestOf}
use Rattle.fleet_pibt.specs.Order.{wait_of}
use Rattle.fleet_planner.specs.Lending.{goal_at}
use Rattle.fleet_planner.specs.declared.lending.Lending.{Lending}
use Rattle.fleet_bound.specs.Waiting.{comes_before}
use Rattle.turns_law.specs.Turns.{Turns}
use Rattle.turns_law.specs.Turn.{IsTurn}
use Rattle.turns_law.specs.ToGo.{IsToGo}

-- each robot's cell, its goal, and how many ticks it has had that goal
pub record Fleet : Type 0 where
  pub cells : List ℕ
  pub goals : List (Option ℕ)
  pub waits : List (Option ℕ)

-- n robots on distinct floor cells: each can reach its goal, and its wait can still grow
pub record IsFleet (m : Floor) (n : ℕ) (f : Fleet) : Type 0 where
  pub robots : length f.cells ≡ n
  pub waiting : length f.waits ≡ n
  pub placed : IsPlacement m f.cells
  -- a robot waits exactly while it has a goal
  pub waited : (r : ℕ) → r < n → IsSome (goal_at f.goals r) ↔ IsSome (wait_of f.waits r)
  pub reached : (r g : ℕ) → r < n → goal_at f.goals r ≡ Some g → AreJoined (IsNeighbour m) (slice_index f.cells r) g
  pub early : (r w : ℕ) → wait_of f.waits r ≡ Some w → w + 1 < 2 ^ 63

-- a tick that robots take turns in
pub record IsTick (m : Floor) (t : Turns) (laws : List TieLaw) (old new : Fleet) : Type 0 where
  pub lending : Lending
  pub turn : IsTurn m t laws old.goals old.waits old.cells new.cells lending
  -- who has no goal gets none
  pub idle : (r : ℕ) → r < length old.cells → goal_at old.goals r ≡ None → goal_at new.goals r ≡ None
  -- who does not arrive keeps its goal, and waits on
  pub goes_on : (r g w : ℕ) → r < length old.cells → goal_at old.goals r ≡ Some g → wait_of old.waits r ≡ Some w → slice_index new.cells r ≢ g →
      (goal_at new.goals r ≡ Some g) × (wait_of new.waits r ≡ Some (w + 1))
  -- who arrives has no goal, or begins to wait for the next
  pub anew : (r g v : ℕ) → r < length old.cells → goal_at old.goals r ≡ Some g → slice_index new.cells r ≡ g → wait_of new.waits r ≡ Some v → v ≡ 0

-- whatever happens between two ticks: robots get goals
pub record IsPause (n : ℕ) (old new : Fleet) : Type 0 where
  pub stays : new.cells ≡ old.cells
  -- who has a goal keeps it
  pub kept : (r g : ℕ) → r < n → goal_at old.goals r ≡ Some g → (goal_at new.goals r ≡ Some g) × (wait_of new.waits r ≡ wait_of old.waits r)
  -- who gets one begins to wait
  pub fresh : (r v : ℕ) → r < n → goal_at old.goals r ≡ None → wait_of new.waits r ≡ Some v → v ≡ 0

-- the wait of a robot with this goal, if the goal is served
abbrev pub wait_if_served : Turns → Option ℕ → Option ℕ → Option ℕ
wait_if_served t None wait = None
wait_if_served t (Some g) wait = if nat_lt (slice_index t.capacity (slice_index t.core g)) t.robots then None else wait

-- the robot's wait, if its goal is served; `None` where it is not, or there is none
abbrev pub served_wait : Turns → Fleet → ℕ → Option ℕ
served_wait t f r = wait_if_served t (goal_at f.goals r) (wait_of f.waits r)

-- how many robots with served goals come before the robot r, which has waited w
abbrev pub served_before : Turns → Fleet → ℕ → ℕ → ℕ
served_before t f r w = count_by (λ q. comes_before (served_wait t f q) q w r) (range_with_len 0 t.robots)

-- the robot's goal is served, and at least this part of its wait is within the bound: while the first of the robots with served goals needs so
-- many ticks, there is room for them and for a turn of each robot that comes before it
pub record IsOnTime (m : Floor) (t : Turns) (reach : ℕ) (depth : ℕ → ℕ) (turn : ℕ) (f : Fleet) (r part : ℕ) : Type 0 where
  pub age : ℕ
  pub waits : served_wait t f r ≡ Some age
  pub counted : part ≤ age
  pub left : (e g ticks : ℕ) → IsEldestOf (served_wait t f) t.robots e → goal_at f.goals e ≡ Some g → IsToGo m t reach depth f.cells e g ticks →
      part + ticks + served_before t f r age * turn ≤ t.robots * turn

-- the bound is kept: all waits for served goals are within it
abbrev pub KeepsTurns : (m : Floor) (t : Turns) (reach : ℕ) (depth : ℕ → ℕ) (turn : ℕ) → Fleet → Type 0
KeepsTurns m t reach depth turn f = (r w : ℕ) → r < t.robots → served_wait t f r ≡ Some w → IsOnTime m t reach depth turn f r w

-- from a fleet in which a robot has a served goal there came this one by this number of ticks, in which the robot did not arrive
pub data Follows (m : Floor) (t : Turns) (laws : List TieLaw) (r : ℕ) (from : Fleet) : Fleet → ℕ → Type 0 where
  begins : (w : ℕ) → IsFleet m t.robots from → served_wait t from r ≡ Some w → Follows m t laws r from from 0
  ticked : {f : Fleet} {ticks : ℕ} (now : Fleet) (more g : ℕ) → Follows m t laws r from f ticks → IsTick m t laws f now → IsFleet m t.robots now →
      goal_at f.goals r ≡ Some g → slice_index now.cells r ≢ g → more ≡ ticks + 1 → Follows m t laws r from now more
  paused : {f : Fleet} {ticks : ℕ} (now : Fleet) → Follows m t laws r from f ticks → IsPause t.robots f now → IsFleet m t.robots now → Follows m t laws r from now ticks
