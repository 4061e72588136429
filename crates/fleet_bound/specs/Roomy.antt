-- Histories whose errands go to cells that are roomy for all robots, and what is promised of them on every map.
use Rattle.std.specs.Prelude.{◌≡◌, ◌<◌, ◌≤◌, ◌⊎◌, ℕ, List, All, Some, None}
use Rattle.std.specs.List.{flat_map}
use Rattle.fleet_grid.specs.Floor.{Floor, IsNeighbour}
use Rattle.fleet_grid.specs.Walk.{IsBridgeless, IsRoomy}
use Rattle.fleet_queue.specs.declared.errand.Errand.{Errand}
use Rattle.fleet_hooks.specs.declared.law.TieLaw.{TieLaw}
use Rattle.fleet_history.specs.declared.history.Entry.{Entry}
use Rattle.fleet_history.specs.History.{History, start, robots, front, joined, unfinished, accepted_by}
use Rattle.fleet_history.specs.Laws.{EachTick}
use Rattle.fleet_history.specs.Legal.{IsLegal}
use Rattle.fleet_pibt.specs.Eldest.{IsEldest}
use Rattle.fleet_planner.specs.Planned.{waits, IsPlanned, IsAdvancingTick}
use Rattle.fleet_bound.specs.Bound.{KeepsBound}
use Rattle.fleet_bound.specs.Onward.{onward, tick_count, TakesNothing}

-- each errand that joined a queue goes to a roomy cell: those of the opening, and those that were accepted
abbrev pub AreRoomy : {A : Type 0} → Floor → History A → Type 0
AreRoomy m h = (r : ℕ) → All (λ (x : Errand). IsRoomy (IsNeighbour m) (robots h) x.cell) (joined h r)

-- the front errand of the eldest robot goes to a roomy cell
abbrev pub EldestIsRoomy : {A : Type 0} → Floor → History A → Type 0
EldestIsRoomy m h = (e : ℕ) (x : Errand) → IsEldest (waits h) e → front h e ≡ Some x → IsRoomy (IsNeighbour m) (robots h) x.cell

-- each unfinished errand goes to a roomy cell, whatever was done before
abbrev pub AreOpenRoomy : {A : Type 0} → Floor → History A → Type 0
AreOpenRoomy m h = (r : ℕ) → r < robots h → All (λ (x : Errand). IsRoomy (IsNeighbour m) (robots h) x.cell) (unfinished h r)

-- each errand that these entries accept goes to a cell that is roomy for n robots
abbrev pub AreNewRoomy : {A : Type 0} → Floor → ℕ → List (Entry A) → Type 0
AreNewRoomy m n more = (r : ℕ) → All (λ (x : Errand). IsRoomy (IsNeighbour m) n x.cell) (flat_map (accepted_by r) more)

-- nobody has a front after a legal and planned continuation that has this many ticks and takes no order
abbrev pub IsIdleByPlan : {A : Type 0} → Floor → List TieLaw → History A → ℕ → Type 0
IsIdleByPlan {A} m ties h ticks = (r : ℕ) (more : List (Entry A)) → r < robots h → IsLegal m (onward h more) →
    EachTick (IsPlanned m ties) (onward h more) → TakesNothing more → ticks ≤ tick_count more → front (onward h more) r ≡ None

-- ---- what worlds promise of a chapter's history; on a map without bridges each cell is roomy

-- if all errands go to roomy cells, each tick is advancing
abbrev pub AdvancesIfRoomy : {A : Type 0} → Floor → History A → Type 0
AdvancesIfRoomy m h = AreRoomy m h → EachTick (IsAdvancingTick m) h

-- the bound on waits is promised: all errands go to roomy cells, and the opening's waits leave room for the bound, as they
-- do at each opening of a world whose map has no bridge
pub record HasBound {A : Type 0} (m : Floor) (h : History A) : Type 0 where
  pub roomy : AreRoomy m h
  pub begins : IsBridgeless (IsNeighbour m) ⊎ KeepsBound m (start h.opening)
