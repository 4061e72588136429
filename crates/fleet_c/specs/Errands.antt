-- What the calls that list errands, and the one that says how the robots stand, answer C.
use Rattle.std.specs.Prelude.{ℕ, ◌+◌, ◌≡◌, ◌≢◌, ◌<◌, ◌↔◌, List, [], ◌∷◌, ◌++◌, map, drop, length, Bool, Option, Some, None, if◌then◌else◌, is_some, unwrap_or, slice_index, slice_index_or}
use Rattle.fleet_queue.specs.declared.errand.Errand.{Errand}
use Rattle.fleet_history.specs.History.{clients, robots, place, front, unfinished, is_shut}
use Rattle.fleet_history.specs.Waits.{wait}
use Rattle.fleet_core.specs.Core.{World}
use Rattle.fleet_core.specs.OpenErrands.{open_errands}
use Rattle.fleet_core.specs.declared.open_errands.OpenErrand.{OpenErrand}
use Rattle.fleet_c.specs.Views.{OfCounted}
use Rattle.fleet_c.specs.declared.chore.Chore.{Chore}
use Rattle.fleet_c.specs.declared.codes.TheConstants.{DONE, NO_MEMORY, NO_CLIENT, NO_ROBOT, WRONG_LENGTH}
use Rattle.fleet_c.specs.declared.standing.Standing.{Standing}
use Rattle.fleet_c.specs.declared.standing.TheConstants.{FREE, BUSY, SHUT, NOWHERE}

-- ---- lists of errands

-- an open errand of a client, for C
abbrev pub chore_of : ℕ → OpenErrand → Chore
chore_of client o = record { number = o.number; place = o.place; client = client; robot = o.robot; cell = o.cell }

-- the errand at a place of a robot's queue, for C
abbrev pub queued_at : (robot place : ℕ) → Errand → Chore
queued_at robot place e = record { number = e.number; place = place; client = e.client; robot = robot; cell = e.cell }

-- a robot's errands, from this place of its queue on
abbrev pub queued_from : (robot place : ℕ) → List Errand → List Chore
queued_from robot place [] = []
queued_from robot place (e ∷ es) = queued_at robot place e ∷ queued_from robot (place + 1) es

-- a list is told, where there is room for it, and how many places it needs
pub record IsListed {X : Type 0} (all : List X) (code : ℕ) (before after : List X) (had count : ℕ) : Type 0 where
  pub needed : code ≢ NO_MEMORY → count ≡ length all
  pub short : (code ≡ WRONG_LENGTH) → length before < length all
  pub told : code ≡ DONE → after ≡ all ++ drop (length all) before
  pub stays : code ≢ DONE → after ≡ before
  pub memory : code ≡ NO_MEMORY → count ≡ had
  pub refused : code ≢ DONE → code ≢ WRONG_LENGTH → code ≡ NO_MEMORY

-- a client's open errands, by robot and then by place
abbrev pub ListsOpen : {A : Type 0} → World A → ℕ → ℕ → List Chore → List Chore → ℕ → ℕ → Type 0
ListsOpen w client code before after had count =
    OfCounted (clients w.history) client NO_CLIENT code (IsListed (map (chore_of client) (open_errands w.history client)) code before after had count)

-- a robot's unfinished errands, from its front on
abbrev pub ListsQueue : {A : Type 0} → World A → ℕ → ℕ → List Chore → List Chore → ℕ → ℕ → Type 0
ListsQueue w robot code before after had count =
    OfCounted (robots w.history) robot NO_ROBOT code (IsListed (queued_from robot 1 (unfinished w.history robot)) code before after had count)

-- ---- how robots stand

-- the cell of a robot's front for C; NOWHERE where it has no front
abbrev pub goal_of : Option Errand → ℕ
goal_of None = NOWHERE
goal_of (Some e) = e.cell

-- shut, or whether it has an errand
abbrev pub state_of : Bool → Bool → ℕ
state_of shut busy = if shut then SHUT else if busy then BUSY else FREE

-- how a robot stands, for C: its wait in ticks, 0 where it has no errand
abbrev pub standing_of : {A : Type 0} → World A → ℕ → Standing
standing_of w r = record {
  wait = unwrap_or (wait w.history r) 0;
  errands = length (unfinished w.history r);
  cell = slice_index (place w.history) r;
  goal = goal_of (front w.history r);
  state = state_of (is_shut w.history r) (is_some (front w.history r));
}

-- how each robot stands, where the list has one place a robot
pub record HasStandings {A : Type 0} (w : World A) (code : ℕ) (before after : List Standing) : Type 0 where
  pub wrong : (code ≡ WRONG_LENGTH) ↔ (length before ≢ robots w.history)
  pub told : code ≡ DONE → (r : ℕ) (d : Standing) → r < robots w.history → slice_index_or after r d ≡ standing_of w r
  pub stays : code ≢ DONE → after ≡ before
  pub refused : code ≢ DONE → code ≢ WRONG_LENGTH → code ≡ NO_MEMORY
