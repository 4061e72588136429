-- How a fleet stands, as a look prints it.
use Rattle.std.specs.Prelude.{◌≡◌, ◌↔◌, ℕ, List, length, slice_index, Option, Some, None, IsSome, IfSome, MatchOption}
use Rattle.fleet_bound.specs.Idle.{idle_ticks, longest_after}
use Rattle.fleet_bound.specs.Roomy.{AreOpenRoomy}
use Rattle.fleet_grid.specs.Counts.{floor_count}
use Rattle.fleet_history.specs.History.{clock, front, robots, place}
use Rattle.fleet_pibt.specs.Advancing.{HasWayAhead, IsFullBeyond}
use Rattle.fleet_pibt.specs.Eldest.{IsEldest}
use Rattle.fleet_pibt.specs.Goals.{IsNearer}
use Rattle.fleet_queue.specs.declared.errand.Errand.{Errand}
use Rattle.fleet_planner.specs.Aimed.{IsIdle}
use Rattle.fleet_planner.specs.Planned.{waits}
use Rattle.fleet_core.specs.Core.{World}
use Rattle.fleet_text.specs.Answers.{look_line}
use Rattle.fleet_text.specs.declared.look.Standing.{Standing}

-- how it stands
abbrev pub standing_of : {A : Type 0} → World A → Option ℕ → Option ℕ → Option ℕ → Standing
standing_of w eldest within blocked = record { tick = clock w.history; chapter = w.number; entries = length w.history.entries; eldest = eldest; within = within; blocked = blocked }

-- the eldest robot's way is free, or it leads over a bridge to this cell, and a robot stands on each cell beyond
pub record IsBlocked {A : Type 0} (w : World A) (eldest : Option ℕ) (blocked : Option ℕ) : Type 0 where
  pub idle : eldest ≡ None → blocked ≡ None
  pub way : (e : ℕ) (errand : Errand) → eldest ≡ Some e → front w.history e ≡ Some errand → MatchOption blocked
      (HasWayAhead w.floor (place w.history) errand.cell (slice_index (place w.history) e))
      (λ c. IsNearer w.floor errand.cell c (slice_index (place w.history) e) × IsFullBeyond w.floor (place w.history) (slice_index (place w.history) e) c)

-- what is known of the ticks to come, where robots do not take turns: after how many the fleet is idle if nothing is ordered, and the cell before
-- the eldest robot in a dead end that is full
pub record IsForeseen {A : Type 0} (w : World A) (eldest within blocked : Option ℕ) : Type 0 where
  pub told : IsSome within ↔ AreOpenRoomy w.floor w.history
  pub ticks : IfSome within (λ ticks. ticks ≡ idle_ticks (longest_after w.history) (robots w.history) (floor_count w.floor))
  pub ahead : IsBlocked w eldest blocked

-- the line of a look at this world: of robots that take turns nothing is foreseen
pub record IsLook {A : Type 0} (w : World A) (text : List ℕ) : Type 0 where
  pub eldest : Option ℕ
  pub oldest : MatchOption eldest (IsIdle w.history) (λ e. IsEldest (waits w.history) e)
  pub within : Option ℕ
  pub blocked : Option ℕ
  pub plain : w.turns ≡ None → IsForeseen w eldest within blocked
  pub turns : IsSome w.turns → (within ≡ None) × (blocked ≡ None)
  pub is : text ≡ look_line (standing_of w eldest within blocked) (place w.history)
