-- Which openings a world goes on from, and the world that goes on.
use Rattle.std.specs.Prelude.{ℕ, ◌≡◌, ◌<◌, ◌≤◌, [], None, max, map, length}
use Rattle.std.specs.List.{range_with_len}
use Rattle.fleet_grid.specs.Floor.{Floor, IsNeighbour}
use Rattle.fleet_grid.specs.Walk.{IsBridgeless}
use Rattle.fleet_book.specs.declared.limits.Limits.{Limits}
use Rattle.fleet_book.specs.Limits.{AreValid}
use Rattle.fleet_history.specs.declared.history.Opening.{Opening}
use Rattle.fleet_history.specs.History.{History, start, owed, clients}
use Rattle.fleet_history.specs.Legal.{IsInOrder}
use Rattle.fleet_history.specs.Next.{IsWithinChapters}
use Rattle.fleet_bound.specs.Bound.{KeepsBound}
use Rattle.fleet_core.specs.Core.{World}
use Rattle.fleet_core.specs.Hooks.{HookLaws}
use Rattle.fleet_core.specs.Pending.{Pending}

-- the laws are those of the opening's robots
pub record AreLawsAt {A : Type 0} (o : Opening A) (laws : HookLaws) : Type 0 where
  pub ties : length laws.ties ≡ length o.robots
  pub arrivals : laws.arrivals ≡ map (λ x. x.arrival_law) o.robots
  pub farewells : laws.farewells ≡ map (λ x. x.farewell_law) o.robots

-- the queues and the lives are those of the limits
pub record AreLimitsAt {A : Type 0} (o : Opening A) (limits : Limits) : Type 0 where
  pub queue : o.queue ≡ limits.queue
  pub life : o.life ≡ limits.life

-- within the limits there may be a chapter of this number that begins so: the ticks, the number, and the orders that were
-- taken of each client, of which each chapter before has at most as many as entries
pub record IsOpeningWithin {A : Type 0} (limits : Limits) (number : ℕ) (o : Opening A) : Type 0 where
  pub clock : o.tick ≤ limits.clock
  pub numbered : number < limits.chapters
  pub taken : IsWithinChapters (start o) number limits.chapter

-- the waits leave room for what a map without bridges promises of them
abbrev pub BeginsWithinBound : {A : Type 0} → Floor → Opening A → Type 0
BeginsWithinBound m o = IsBridgeless (IsNeighbour m) → KeepsBound m (start o)

-- what an opening asks for, so that a world goes on from it as the chapter of this number
pub record CanResume {A : Type 0} (m : Floor) (number : ℕ) (o : Opening A) (limits : Limits) (laws : HookLaws) : Type 0 where
  pub valid : AreValid limits
  pub order : IsInOrder m o
  pub hooks : AreLawsAt o laws
  pub same : AreLimitsAt o limits
  pub within : IsOpeningWithin limits number o
  pub bounded : BeginsWithinBound m o

-- a world may go on from the opening, whatever its number and its laws
abbrev pub MayResume : {A : Type 0} → Floor → Opening A → Limits → Type 0
MayResume m o limits = (number : ℕ) × (laws : HookLaws) × CanResume m number o limits laws

-- a mailbox without notices, with room for this many and for as many as its client is owed
abbrev pub empty_box : {A : Type 0} → History A → ℕ → ℕ → Pending
empty_box h room c = record { notices = []; limit = max room (owed h c) }

-- a world that goes on from an opening
abbrev pub resumed_world : {A : Type 0} → Floor → ℕ → Opening A → Limits → HookLaws → World A
resumed_world m number o limits laws = record {
  floor = m;
  limits = limits;
  ties = laws.ties;
  turns = None;
  number = number;
  history = start o;
  mailboxes = map (empty_box (start o) limits.mailbox) (range_with_len 0 (clients (start o)));
}
