-- What a call that only looks at a world answers C.
use Rattle.std.specs.Prelude.{ℕ, ◌≡◌, ◌≢◌, ◌<◌, ◌≤◌, ◌^◌, ◌↔◌, ◌++◌, List, drop, length, Option, Some, None, MatchOption, slice_get}
use Rattle.fleet_bound.specs.Arriving.{IsIdleWithin}
use Rattle.fleet_bound.specs.Bound.{wait_bound}
use Rattle.fleet_bound.specs.Roomy.{HasBound}
use Rattle.fleet_bound.specs.Idle.{idle_ticks, longest_after, wait_limit}
use Rattle.fleet_grid.specs.Counts.{floor_count}
use Rattle.fleet_grid.specs.Floor.{IsNeighbour}
use Rattle.fleet_grid.specs.Walk.{IsBridgeless}
use Rattle.fleet_history.specs.History.{clients, robots, place, owed, taken_count}
use Rattle.fleet_history.specs.Waits.{wait}
use Rattle.fleet_pibt.specs.Eldest.{IsEldest}
use Rattle.fleet_planner.specs.Aimed.{IsIdle}
use Rattle.fleet_planner.specs.Planned.{waits}
use Rattle.fleet_trace.specs.Trace.{Trace}
use Rattle.fleet_trace.specs.Text.{trace_text}
use Rattle.fleet_core.specs.Core.{World, pending}
use Rattle.fleet_c.specs.Forms.{limits_of, note_of}
use Rattle.fleet_c.specs.declared.account.Account.{Account}
use Rattle.fleet_c.specs.declared.codes.TheConstants.{DONE, NO_MEMORY, NO_CLIENT, NO_ROBOT, NO_NOTICE, IDLE, HAS_BRIDGE, WRONG_LENGTH}
use Rattle.fleet_c.specs.declared.note.Note.{Note}
use Rattle.fleet_c.specs.declared.setup.Setup.{Setup}
use Rattle.fleet_c.specs.declared.setup.TheConstants.{SETUP_SIZE}

-- a client or robot of a number that is not below the count is refused with this code
abbrev pub OfCounted : ℕ → ℕ → ℕ → ℕ → Type 0 → Type 0
OfCounted count number refusal code Says = (count ≤ number → code ≡ refusal) × (number < count → Says)

-- ---- robots

-- the cells, where the list has a place for each robot
abbrev pub Places : {A : Type 0} → World A → ℕ → List ℕ → List ℕ → Type 0
Places w code before after = (length before ≡ length (place w.history) → (code ≡ DONE) × (after ≡ place w.history))
    × (length before ≢ length (place w.history) → (code ≡ WRONG_LENGTH) × (after ≡ before))

-- how many ticks the robot has waited; without turns below the bound if all errands go to roomy cells, as all cells are on a map without bridges
abbrev pub IsWaiting : {A : Type 0} → World A → ℕ → ℕ → ℕ → Type 0
IsWaiting w robot code ticks = MatchOption (wait w.history robot)
    (code ≡ IDLE)
    (λ t. (code ≡ DONE) × (ticks ≡ t) × (w.turns ≡ None → HasBound w.floor w.history → t < wait_bound w.floor w.history))

-- how many ticks the robot has waited, where there is such a robot
abbrev pub Waits : {A : Type 0} → World A → ℕ → ℕ → ℕ → Type 0
Waits w robot code ticks = OfCounted (robots w.history) robot NO_ROBOT code (IsWaiting w robot code ticks)

-- the robot of greatest wait, the least number on a tie
pub record HasEldest {A : Type 0} (w : World A) (code robot : ℕ) : Type 0 where
  pub answer : Option ℕ
  pub is : MatchOption answer (IsIdle w.history) (λ e. IsEldest (waits w.history) e)
  pub told : MatchOption answer (code ≡ IDLE) (λ e. (code ≡ DONE) × (robot ≡ e))

-- the greatest wait
pub record HasLongest {A : Type 0} (w : World A) (code ticks : ℕ) : Type 0 where
  pub answer : Option ℕ
  pub is : MatchOption answer (IsIdle w.history) (λ t. (r : ℕ) × IsEldest (waits w.history) r × (wait w.history r ≡ Some t))
  pub told : MatchOption answer (code ≡ IDLE) (λ t. (code ≡ DONE) × (ticks ≡ t))

-- within this many ticks nobody has an errand any more, where no order is taken meanwhile
pub record HasIdle {A : Type 0} (w : World A) (code ticks : ℕ) : Type 0 where
  pub bridged : (code ≡ HAS_BRIDGE) ↔ (IsBridgeless (IsNeighbour w.floor) → ⊥)
  pub exact : code ≡ DONE → ticks ≡ idle_ticks (longest_after w.history) (robots w.history) (floor_count w.floor)
  pub idle : code ≡ DONE → IsIdleWithin w.floor w.history ticks
  pub refused : code ≢ DONE → code ≡ HAS_BRIDGE

-- no wait reaches this many ticks, whatever is ordered
pub record HasLimit {A : Type 0} (w : World A) (code ticks : ℕ) : Type 0 where
  pub bridged : (code ≡ HAS_BRIDGE) ↔ (IsBridgeless (IsNeighbour w.floor) → ⊥)
  pub exact : code ≡ DONE → ticks ≡ wait_limit (robots w.history) (floor_count w.floor)
  pub above : code ≡ DONE → (r t : ℕ) → r < robots w.history → wait w.history r ≡ Some t → t < ticks
  pub refused : code ≢ DONE → code ≡ HAS_BRIDGE

-- the setup that a fleet was opened with
pub record HasLimits {A : Type 0} (w : World A) (setup : Setup) : Type 0 where
  pub size : setup.size ≡ SETUP_SIZE
  pub limits : limits_of setup ≡ w.limits
  pub clients : clients w.history < 2 ^ 32 → setup.clients ≡ clients w.history

-- ---- mailboxes

-- the client's first notice is told, and stays in its mailbox
abbrev pub IsPeeked : {A : Type 0} → World A → ℕ → ℕ → Note → Type 0
IsPeeked w client code note = MatchOption (slice_get (pending w client).notices 0) (code ≡ NO_NOTICE) (λ notice. (code ≡ DONE) × (note ≡ note_of notice))

-- the client's first notice is told and stays, where there is such a client
abbrev pub Peeks : {A : Type 0} → World A → ℕ → ℕ → Note → Type 0
Peeks w client code note = OfCounted (clients w.history) client NO_CLIENT code (IsPeeked w client code note)

-- what the client has, and had
abbrev pub account_of : {A : Type 0} → World A → ℕ → Account
account_of w client = record {
  taken = taken_count w.history client;
  owed = owed w.history client;
  pending = length (pending w client).notices;
  room = (pending w client).limit;
}

-- what the client has, and had, where there is such a client
abbrev pub Accounts : {A : Type 0} → World A → ℕ → ℕ → Account → Type 0
Accounts w client code account = OfCounted (clients w.history) client NO_CLIENT code ((code ≡ DONE) × (account ≡ account_of w client))

-- how many notices the client was not given yet
abbrev pub Counts : {A : Type 0} → World A → ℕ → ℕ → ℕ → Type 0
Counts w client code count = OfCounted (clients w.history) client NO_CLIENT code ((code ≡ DONE) × (count ≡ length (pending w client).notices))

-- ---- chapters

-- the present chapter's trace
abbrev pub present : {A : Type 0} → World A → Trace A
present w = record { number = w.number; history = w.history }

-- a chapter's text, where the list has room for it, and its length
pub record IsTold {A : Type 0} (t : Trace A) (code : ℕ) (before after : List ℕ) (length' : ℕ) : Type 0 where
  pub length_is : code ≢ NO_MEMORY → length' ≡ length (trace_text t)
  pub short : (code ≡ WRONG_LENGTH) → length before < length (trace_text t)
  pub text : code ≡ DONE → after ≡ trace_text t ++ drop (length (trace_text t)) before
  pub untouched : code ≢ DONE → after ≡ before
  pub refused : code ≢ DONE → code ≢ WRONG_LENGTH → code ≡ NO_MEMORY
