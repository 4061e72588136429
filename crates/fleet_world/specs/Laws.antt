-- What holds after every run.
use Rattle.std.specs.Prelude.{ℕ, ◌≡◌, ◌<◌, List, [], ◌++◌, length, slice_index_or}
use Rattle.fleet_book.specs.declared.notice.Notice.{Notice}
use Rattle.fleet_history.specs.History.{History, clients}
use Rattle.fleet_history.specs.Notices.{notices}
use Rattle.fleet_history.specs.Laws.{IsPrefixOf, orders}
use Rattle.fleet_history.specs.Rings.{KeepsRing}
use Rattle.fleet_core.specs.Core.{World}
use Rattle.fleet_world.specs.Run.{State, Lists, lists, lane, outlet, mailbox}

-- a client's lists and the history belong together
pub record RingLaw {A : Type 0} (h : History A) (c : ℕ) (box : List Notice) (l : Lists) : Type 0 where
  pub taken_prefix : l.taken ++ lane l ≡ l.sent
  pub collected_prefix : l.collected ++ outlet l ≡ l.given
  pub taken : orders h c ≡ l.taken
  pub told : l.given ++ box ≡ notices h c

-- each client has lists and a mailbox, and they and the history belong together
pub record KeepsRings {A : Type 0} (s : State A) : Type 0 where
  pub list_count : length s.clients ≡ clients s.world.history
  pub box_count : length s.world.mailboxes ≡ clients s.world.history
  pub each : (c : ℕ) → c < clients s.world.history → RingLaw s.world.history c (mailbox s c) (lists s c)

-- the same for each client in the words of any chapter: what was taken of its lane, and what it was given with what its
-- mailbox holds
abbrev pub KeepsEachRing : {A : Type 0} → State A → Type 0
KeepsEachRing s = (c : ℕ) → c < clients s.world.history → KeepsRing s.world.history c (lists s c).taken ((lists s c).given ++ mailbox s c)

-- what each client collected is the beginning of its notices: each notice once, in order, and none left out
abbrev pub CollectsInOrder : {A : Type 0} → History A → List (List Notice) → Type 0
CollectsInOrder h collected = (c : ℕ) → c < clients h → IsPrefixOf (slice_index_or collected c []) (notices h c)

-- what no event changes: the map, the limits, the tie laws, the turns, the chapter's number and its opening
pub record IsSameGround {A : Type 0} (before after : World A) : Type 0 where
  pub floor : after.floor ≡ before.floor
  pub limits : after.limits ≡ before.limits
  pub ties : after.ties ≡ before.ties
  pub turns : after.turns ≡ before.turns
  pub number : after.number ≡ before.number
  pub opening : after.history.opening ≡ before.history.opening
