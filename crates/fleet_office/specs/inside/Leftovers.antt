-- What clients had not collected.
use Rattle.std.specs.Prelude.{ℕ, ◌+◌, ◌≡◌, ◌<◌, ◌≤◌, List, [], ◌++◌, Some, slice_get, slice_set, length, vec_capacity, Vec}
use Rattle.fleet_book.specs.declared.notice.Notice.{Notice}
use Rattle.fleet_core.specs.Core.{World, pending}
use Rattle.fleet_lanes.specs.Ends.{ClientView}

-- there is an empty list with room for what the client had not collected
abbrev pub HasRoomFor : {A : Type 0} → List (Vec Notice A) → World A → ClientView A → Type 0
HasRoomFor {A} rooms w x = (v : Vec Notice A) × (slice_get rooms x.number ≡ Some v) × (v.items ≡ []) × (length x.known + length (pending w x.number).notices ≤ vec_capacity v)

-- what the client had not collected is in the list at its number: what is known on its outlet, and then its mailbox
abbrev pub IsMoved : {A : Type 0} → List (Vec Notice A) → World A → ClientView A → List (Vec Notice A) → Type 0
IsMoved {A} rooms w x rests = (v : Vec Notice A) × (rests ≡ slice_set rooms x.number v) × (v.items ≡ x.known ++ (pending w x.number).notices)

abbrev pub AreRooms : {A : Type 0} → List (Vec Notice A) → World A → List (ClientView A) → Type 0
AreRooms {A} rooms w cs = (k : ℕ) (x : ClientView A) → slice_get cs k ≡ Some x → HasRoomFor rooms w x

-- at each client's number: what is known on its outlet, and then its mailbox
abbrev pub LeftoversAre : {A : Type 0} → List (Vec Notice A) → World A → List (ClientView A) → Type 0
LeftoversAre {A} rests w cs = (k : ℕ) (x : ClientView A) → slice_get cs k ≡ Some x →
    (v : Vec Notice A) × (slice_get rests x.number ≡ Some v) × (v.items ≡ x.known ++ (pending w x.number).notices)

-- the clients' numbers are below n
abbrev pub AreWithin : {A : Type 0} → ℕ → List (ClientView A) → Type 0
AreWithin {A} n cs = (k : ℕ) (x : ClientView A) → slice_get cs k ≡ Some x → x.number < n

-- the client of this number had not collected more than n notices
abbrev pub HasAtMost : {A : Type 0} → ℕ → World A → List (ClientView A) → ℕ → Type 0
HasAtMost {A} n w cs number = (k : ℕ) (x : ClientView A) → slice_get cs k ≡ Some x → x.number ≡ number → length x.known + length (pending w number).notices ≤ n

-- no more than the mailboxes changed
pub record SameBut {A : Type 0} (w v : World A) : Type 0 where
  pub floor : v.floor ≡ w.floor
  pub ties : v.ties ≡ w.ties
  pub turns : v.turns ≡ w.turns
  pub number : v.number ≡ w.number
  pub history : v.history ≡ w.history
