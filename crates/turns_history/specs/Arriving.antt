-- How a history goes on in turns, and what arrives then.
use Rattle.std.specs.Prelude.{◌≡◌, ℕ, ◌+◌, ◌*◌, ◌<◌, ◌≤◌, ◌++◌, ◌∷◌, List, Some, slice_get, Contains}
use Rattle.fleet_grid.specs.Floor.{Floor}
use Rattle.fleet_hooks.specs.declared.law.TieLaw.{TieLaw}
use Rattle.fleet_queue.specs.declared.errand.Errand.{Errand}
use Rattle.fleet_history.specs.declared.history.Arrival.{Arrival}
use Rattle.fleet_history.specs.declared.history.Bye.{Bye}
use Rattle.fleet_history.specs.declared.history.Entry.{Entry}
use Rattle.fleet_history.specs.declared.history.Entry.TheVariants.{Tick}
use Rattle.fleet_history.specs.History.{History, robots, front, unfinished, arrivals}
use Rattle.fleet_history.specs.Legal.{IsLegal}
use Rattle.fleet_bound.specs.Arriving.{IsGone}
use Rattle.fleet_bound.specs.Onward.{onward, tick_count}
use Rattle.turns_law.specs.Turns.{Turns}
use Rattle.turns_history.specs.Fleets.{IsEarly, IsPlannedInTurns}
use Rattle.turns_history.specs.Kept.{IsServedAfter}

-- a legal continuation by ticks that are planned in turns, whatever was done before
pub record GoesOnInTurns {A : Type 0} (m : Floor) (t : Turns) (laws : List TieLaw) (h : History A) (more : List (Entry A)) : Type 0 where
  pub legal : IsLegal m (onward h more)
  pub planned : (before behind : List (Entry A)) (to : List ℕ) (arrived : List Arrival) (farewells : List Bye) →
      more ≡ before ++ Tick to arrived farewells ∷ behind → IsPlannedInTurns m t laws (onward h before) to
  pub early : IsEarly (onward h more)

-- each robot's front errand, if it is served, arrives in each such continuation that has at least `ticks` ticks
abbrev pub FrontsArrive : {A : Type 0} → Floor → Turns → List TieLaw → ℕ → History A → Type 0
FrontsArrive {A} m t laws ticks h = (r : ℕ) (x : Errand) (more : List (Entry A)) → r < robots h → front h r ≡ Some x → IsServedAfter t h x.cell →
    GoesOnInTurns m t laws h more → ticks ≤ tick_count more → Contains (arrivals (onward h more) r) x

-- the errands of a robot's queue up to place k, whose front is at 0, are served
abbrev pub AreServedUpTo : {A : Type 0} → Turns → History A → (r k : ℕ) → Type 0
AreServedUpTo t h r k = (i : ℕ) (y : Errand) → i ≤ k → slice_get (unfinished h r) i ≡ Some y → IsServedAfter t h y.cell

-- the errand at place j of a robot's queue, if it and all before it are served, is gone after each such continuation that has `ticks` ticks
-- j + 1 times
abbrev pub QueuesArrive : {A : Type 0} → Floor → Turns → List TieLaw → ℕ → History A → Type 0
QueuesArrive {A} m t laws ticks h = (r j : ℕ) (x : Errand) (more : List (Entry A)) → r < robots h → slice_get (unfinished h r) j ≡ Some x → AreServedUpTo t h r j →
    GoesOnInTurns m t laws h more → (j + 1) * ticks ≤ tick_count more → IsGone (onward h more) r x
