-- The bound of turns, after a history.
use Rattle.std.specs.Prelude.{◌≡◌, ℕ, ◌+◌, ◌*◌, ◌<◌, ◌≤◌, ◌++◌, List, Some}
use Rattle.fleet_grid.specs.Floor.{Floor}
use Rattle.fleet_hooks.specs.declared.law.TieLaw.{TieLaw}
use Rattle.fleet_queue.specs.declared.errand.Errand.{Errand}
use Rattle.fleet_history.specs.declared.history.Entry.{Entry}
use Rattle.fleet_history.specs.History.{History, start, with_entries, robots, front}
use Rattle.fleet_history.specs.Laws.{EachTick}
use Rattle.fleet_history.specs.Legal.{IsLegal}
use Rattle.fleet_history.specs.Next.{next_opening}
use Rattle.fleet_history.specs.Waits.{wait}
use Rattle.fleet_planner.specs.Lending.{IsServedFor}
use Rattle.turns_law.specs.Turns.{Turns}
use Rattle.turns_law.specs.Fleet.{KeepsTurns}
use Rattle.turns_history.specs.Fleets.{TurnLimits, IsEarly, IsPlannedInTurns, as_fleet}

-- the bound is kept after the history
abbrev pub KeepsTurnsAfter : {A : Type 0} → Floor → Turns → TurnLimits → History A → Type 0
KeepsTurnsAfter m t l h = KeepsTurns m t l.reach l.depth l.turn (as_fleet h)

-- the cell is served for as many robots as the history has
abbrev pub IsServedAfter : {A : Type 0} → Turns → History A → ℕ → Type 0
IsServedAfter t h cell = IsServedFor t.core t.capacity (robots h) cell

-- each robot whose front errand is served has waited for less than this many ticks
abbrev pub AreServedBelow : {A : Type 0} → Turns → ℕ → History A → Type 0
AreServedBelow t bound h = (r w : ℕ) (x : Errand) → r < robots h → front h r ≡ Some x → IsServedAfter t h x.cell → wait h r ≡ Some w → w < bound

-- a legal history of few ticks, each of which was planned in turns
pub record IsLegalInTurns {A : Type 0} (m : Floor) (t : Turns) (laws : List TieLaw) (h : History A) : Type 0 where
  pub legal : IsLegal m h
  pub planned : EachTick (IsPlannedInTurns m t laws) h
  pub early : IsEarly h

-- chapters up to this number, of which each begins where the one before ended
pub record AreChaptersInTurns {A : Type 0} (m : Floor) (t : Turns) (laws : List TieLaw) (chapters : ℕ → History A) (last : ℕ) : Type 0 where
  pub each : (k : ℕ) → k ≤ last → IsLegalInTurns m t laws (chapters k)
  pub next : (k : ℕ) → k < last → (chapters (k + 1)).opening ≡ next_opening (chapters k)
