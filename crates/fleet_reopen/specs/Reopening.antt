-- From which chapters a world goes on, and the world that goes on.
use Rattle.std.specs.Prelude.{ℕ, ◌+◌, ◌<◌, ◌≤◌, length, map}
use Rattle.std.specs.List.{range_with_len}
use Rattle.fleet_grid.specs.Floor.{Floor}
use Rattle.fleet_book.specs.declared.limits.Limits.{Limits}
use Rattle.fleet_book.specs.Limits.{AreValid}
use Rattle.fleet_history.specs.History.{History, start, clients, clock}
use Rattle.fleet_history.specs.Legal.{IsLegal}
use Rattle.fleet_history.specs.Next.{next_opening, IsWithinChapters}
use Rattle.fleet_core.specs.Core.{World}
use Rattle.fleet_core.specs.Hooks.{HookLaws}
use Rattle.fleet_core.specs.Resuming.{AreLawsAt, AreLimitsAt, BeginsWithinBound, empty_box, resumed_world}
use Rattle.fleet_trace.specs.Judged.{IsFirstIllegal}
use Rattle.fleet_reopen.specs.declared.fault.ReopenFault.{ReopenFault}
use Rattle.fleet_reopen.specs.declared.fault.ReopenFault.TheVariants as fault
use Rattle.fleet_reopen.specs.Room.{WaitTooLong}

-- within the limits another chapter follows the one of this number and history
pub record IsFollowed {A : Type 0} (limits : Limits) (number : ℕ) (h : History A) : Type 0 where
  pub clock : clock h ≤ limits.clock
  pub numbered : number + 1 < limits.chapters
  pub entries : length h.entries ≤ limits.chapter
  pub taken : IsWithinChapters h number limits.chapter

-- what a chapter asks for, so that a world goes on from it
pub record CanReopen {A : Type 0} (m : Floor) (number : ℕ) (h : History A) (limits : Limits) (laws : HookLaws) : Type 0 where
  pub valid : AreValid limits
  pub legal : IsLegal m h
  pub hooks : AreLawsAt h.opening laws
  pub same : AreLimitsAt h.opening limits
  pub followed : IsFollowed limits number h
  pub bounded : BeginsWithinBound m (next_opening h)

-- the world that goes on: its chapter has the next number, and begins with what is after the history
abbrev pub reopened_world : {A : Type 0} → Floor → ℕ → History A → Limits → HookLaws → World A
reopened_world m number h limits laws = resumed_world m (number + 1) (next_opening h) limits laws

-- the world with empty mailboxes, each with room for what its client is owed
abbrev pub with_empty_boxes : {A : Type 0} → World A → World A
with_empty_boxes w = record w { mailboxes = map (empty_box w.history w.limits.mailbox) (range_with_len 0 (clients w.history)) }

-- why a world does not go on, if memory did not run out: the first reason that holds
abbrev pub IsReopenFault : {A : Type 0} → Floor → ℕ → History A → Limits → HookLaws → ReopenFault → Type 0
IsReopenFault m number h limits laws fault.Limits = AreValid limits → ⊥
IsReopenFault m number h limits laws (fault.Illegal at rule) = AreValid limits × IsFirstIllegal m h at rule
IsReopenFault m number h limits laws fault.Laws = AreValid limits × IsLegal m h × (AreLawsAt h.opening laws → ⊥)
IsReopenFault m number h limits laws fault.Differs =
    AreValid limits × IsLegal m h × AreLawsAt h.opening laws × (AreLimitsAt h.opening limits → ⊥)
IsReopenFault m number h limits laws fault.Spent =
    AreValid limits × IsLegal m h × AreLawsAt h.opening laws × AreLimitsAt h.opening limits × (IsFollowed limits number h → ⊥)
IsReopenFault m number h limits laws fault.Waits =
    AreValid limits × IsLegal m h × AreLawsAt h.opening laws × AreLimitsAt h.opening limits × IsFollowed limits number h
    × WaitTooLong m (start (next_opening h))
IsReopenFault m number h limits laws fault.NoMemory = Unit {0}
