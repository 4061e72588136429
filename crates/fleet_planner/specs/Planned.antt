-- What the robots go by after a history, and what holds of a tick that is planned by priority inheritance with
-- backtracking.
use Rattle.std.specs.Prelude.{◌≡◌, ℕ, List, Option, Some, None, map, slice_get, slice_index, slice_index_or}
use Rattle.std.specs.List.{range_with_len}
use Rattle.fleet_grid.specs.Floor.{Floor}
use Rattle.fleet_hooks.specs.declared.law.TieLaw.{TieLaw}
use Rattle.fleet_queue.specs.declared.errand.Errand.{Errand}
use Rattle.fleet_history.specs.History.{History, robots, place, front}
use Rattle.fleet_history.specs.Waits.{wait}
use Rattle.fleet_pibt.specs.Eldest.{IsEldest}
use Rattle.fleet_pibt.specs.Purposeful.{IsPurposeful}
use Rattle.fleet_pibt.specs.Advancing.{Advances, IsAdvancing, HasWayAhead}
use Rattle.fleet_pibt.specs.Ties.{IsByLaw}

-- the waits of the robots
abbrev pub waits : {A : Type 0} → History A → List (Option ℕ)
waits h = map (wait h) (range_with_len 0 (robots h))

-- the cell of a robot's front; `None` where it has no front
abbrev pub cell_of : Option Errand → Option ℕ
cell_of None = None
cell_of (Some f) = Some f.cell

-- the goals of the robots: the cells of their fronts
abbrev pub goals : {A : Type 0} → History A → List (Option ℕ)
goals h = map (λ r. cell_of (front h r)) (range_with_len 0 (robots h))

-- the robot's goal; `None` where it has none
abbrev pub goal_of : List (Option ℕ) → ℕ → Option ℕ
goal_of gs r = slice_index_or gs r None

-- a step by the robots' waits, their goals and the laws of their tie closures
pub record IsPlannedBy (m : Floor) (ties : List TieLaw) (ws gs : List (Option ℕ)) (from to : List ℕ) : Type 0 where
  -- no free nearer cell is passed over, and who steps away was pushed by one that comes nearer
  pub purposeful : IsPurposeful m (goal_of gs) from to
  -- the eldest comes nearer, unless a robot stands on each cell beyond a bridge in its way
  pub advances : (e g : ℕ) → IsEldest ws e → goal_of gs e ≡ Some g → HasWayAhead m from g (slice_index from e) →
      Advances m g (slice_index from e) (slice_index to e)
  -- where it does, its tie law decides between nearer cells
  pub by_law : (e g : ℕ) (law : TieLaw) → IsEldest ws e → goal_of gs e ≡ Some g → HasWayAhead m from g (slice_index from e) →
      slice_get ties e ≡ Some law → IsByLaw m law g (slice_index from e) (slice_index to e)

-- a tick that is planned
abbrev pub IsPlanned : {A : Type 0} → Floor → List TieLaw → History A → List ℕ → Type 0
IsPlanned m ties h to = IsPlannedBy m ties (waits h) (goals h) (place h) to

-- an advancing tick: the robot that has waited longest comes nearer, or stood on its goal and stays
abbrev pub IsAdvancingTick : {A : Type 0} → Floor → History A → List ℕ → Type 0
IsAdvancingTick m h to = IsAdvancing m (waits h) (goal_of (goals h)) (place h) to
