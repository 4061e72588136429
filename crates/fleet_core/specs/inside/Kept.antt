-- What a core keeps besides its history, and how it follows from the history.
use Rattle.std.specs.Prelude.{ℕ, ◌+◌, ◌≡◌, ◌<◌, ◌≤◌, List, Option, length}
use Rattle.fleet_grid.specs.Floor.{Floor, IsNeighbour}
use Rattle.fleet_grid.specs.Walk.{IsBridgeless}
use Rattle.fleet_hooks.specs.declared.law.TieLaw.{TieLaw}
use Rattle.fleet_book.specs.declared.limits.Limits.{Limits}
use Rattle.fleet_book.specs.Limits.{AreValid}
use Rattle.fleet_history.specs.History.{History, start, clock, robots, clients, owed}
use Rattle.fleet_history.specs.Laws.{EachTick}
use Rattle.fleet_history.specs.Next.{IsWithinChapters}
use Rattle.fleet_history.specs.Notices.{noticed_count}
use Rattle.fleet_bound.specs.Bound.{KeepsBound}
use Rattle.fleet_state.specs.State.{State, IsStateOf, by_client, HasFullRooms}
use Rattle.fleet_planner.specs.Aimed.{IsAimed}
use Rattle.turns_law.specs.Turns.{Turns}
use Rattle.mover.specs.Moving.{Mover, HasTurns, IsPlannedAs}
use Rattle.fleet_core.specs.inside.Mailboxes.{Mailboxes, box_at}

-- the mailboxes have room for what their clients are owed, hold no more notices than were made, and know their next notices' numbers
pub record AreBoxes {A : Type 0} (h : History A) (x : Mailboxes) : Type 0 where
  pub count : length x.boxes ≡ clients h
  pub room : (c : ℕ) → c < clients h → length (box_at x.boxes c).notices + owed h c ≤ (box_at x.boxes c).limit
  pub told : (c : ℕ) → c < clients h → length (box_at x.boxes c).notices ≤ noticed_count h c
  pub noticed : x.noticed ≡ by_client h (noticed_count h)

-- the history is within the limits, in the chapter of this number
pub record IsWithin {A : Type 0} (limits : Limits) (number : ℕ) (h : History A) : Type 0 where
  pub valid : AreValid limits
  pub entries : length h.entries ≤ limits.chapter
  pub clock : clock h ≤ limits.clock
  pub numbered : number < limits.chapters
  pub chapters : IsWithinChapters h number limits.chapter

-- each tick of the history was planned so by closures with these laws, one a robot
pub record AreTies {A : Type 0} (m : Floor) (turns : Option Turns) (ties : List TieLaw) (h : History A) : Type 0 where
  pub count : length ties ≡ robots h
  pub planned : EachTick (IsPlannedAs turns m ties) h

-- on a map without bridges the chapter began within the bound on waits
abbrev pub BeginsBounded : {A : Type 0} → Floor → History A → Type 0
BeginsBounded m h = IsBridgeless (IsNeighbour m) → KeepsBound m (start h.opening)

-- what a core keeps
pub record IsKept {A : Type 0} (m : Floor) (limits : Limits) (ties : List TieLaw) (number : ℕ) (h : History A) (s : State A) (p : Mover) (x : Mailboxes) : Type 0 where
  pub is : IsStateOf m h s
  pub room : HasFullRooms s
  pub within : IsWithin limits number h
  pub boxed : AreBoxes h x
  pub aimed : IsAimed m h p.planner
  pub turns : HasTurns m (robots h) p.turns
  pub tied : AreTies m p.turns ties h
  pub bounded : BeginsBounded m h
