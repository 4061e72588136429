-- How soon errands arrive, and how soon a fleet is idle.
use Rattle.std.specs.Prelude.{⊤, ◌≡◌, ℕ, ◌+◌, ◌*◌, ◌<◌, ◌≤◌, ◌⊎◌, List, Some, None, true, length, slice_get, Contains}
use Rattle.fleet_grid.specs.Floor.{Floor}
use Rattle.fleet_queue.specs.declared.errand.Errand.{Errand}
use Rattle.fleet_book.specs.declared.order.Order.{Order}
use Rattle.fleet_book.specs.declared.order.Order.TheVariants.{Go}
use Rattle.fleet_book.specs.declared.verdict.Verdict.{Verdict}
use Rattle.fleet_book.specs.declared.verdict.Verdict.TheVariants.{Accepted}
use Rattle.fleet_history.specs.declared.history.Entry.{Entry}
use Rattle.fleet_history.specs.declared.history.Entry.TheVariants.{Take}
use Rattle.fleet_history.specs.History.{History, after, robots, front, unfinished, arrivals, is_withdrawn}
use Rattle.fleet_bound.specs.Bound.{wait_bound}
use Rattle.fleet_bound.specs.Onward.{onward, GoesOn, TakesNothing, tick_count}

-- the errand of the robot arrived, or it was withdrawn
abbrev pub IsGone : {A : Type 0} → History A → ℕ → Errand → Type 0
IsGone h r x = Contains (arrivals h r) x ⊎ (is_withdrawn h x ≡ true)

-- the errand at place j of a robot's queue, whose front is at 0, is gone after each legal continuation that has the bound's
-- ticks j + 1 times
abbrev pub ErrandsArrive : {A : Type 0} → Floor → History A → Type 0
ErrandsArrive {A} m h = (r j : ℕ) (x : Errand) (more : List (Entry A)) →
    r < robots h → slice_get (unfinished h r) j ≡ Some x →
    GoesOn m h more → (j + 1) * wait_bound m h ≤ tick_count more → IsGone (onward h more) r x

-- an accepted errand, which is the last of its robot's queue, is gone after each legal continuation of the history with its
-- take that has the bound's ticks once for each errand of that queue, its own place among them
abbrev pub ArrivesInTurn : {A : Type 0} → Floor → History A → ℕ → Order → Verdict → Type 0
ArrivesInTurn {A} m h client (Go robot cell) (Accepted number) = (more : List (Entry A)) →
    GoesOn m (after h (Take client (Go robot cell) (Accepted number))) more →
    (length (unfinished h robot) + 1) * wait_bound m h ≤ tick_count more →
    IsGone (onward (after h (Take client (Go robot cell) (Accepted number))) more) robot
    (record { client = client; number = number; cell = cell })
ArrivesInTurn m h client _ _ = ⊤

-- nobody has a front after a legal continuation that has this many ticks and takes no order
abbrev pub IsIdleWithin : {A : Type 0} → Floor → History A → ℕ → Type 0
IsIdleWithin {A} m h ticks = (r : ℕ) (more : List (Entry A)) → r < robots h →
    GoesOn m h more → TakesNothing more → ticks ≤ tick_count more → front (onward h more) r ≡ None
