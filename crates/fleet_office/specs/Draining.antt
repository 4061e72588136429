-- The orders that are left in the lanes are taken.
use Rattle.std.specs.Prelude.{ℕ, zero, suc, ◌+◌, ◌*◌, ◌≡◌, ◌≢◌, ◌<◌, ◌≤◌, ◌⊎◌, true, List, ◌++◌, All, Some, length, slice_get, slice_set}
use Rattle.fleet_book.specs.declared.order.Order.{Order}
use Rattle.fleet_book.specs.declared.verdict.Verdict.{Verdict}
use Rattle.fleet_history.specs.declared.history.Entry.{Entry}
use Rattle.fleet_history.specs.History.{owed, with_entries, is_take_of}
use Rattle.fleet_core.specs.Core.{World, pending, Takes}
use Rattle.fleet_lanes.specs.Ends.{EndView}
use Rattle.fleet_office.specs.Views.{ClientCore}

-- n orders are left in the client's lane: it sent n more than the hall took
abbrev pub IsLeft : {A : Type 0} → List (EndView A) → ClientCore A → ℕ → Type 0
IsLeft {A} ends x n = (e : EndView A) → slice_get ends x.number ≡ Some e → length e.taken + n ≡ length x.sent

-- n orders are left in the lane of the client of number c
abbrev pub AreLeft : {A : Type 0} → List (EndView A) → List (ClientCore A) → ℕ → ℕ → Type 0
AreLeft {A} ends cs c n = (k : ℕ) (x : ClientCore A) → slice_get cs k ≡ Some x → x.number ≡ c → IsLeft ends x n

-- a client's notices and unfinished errands
abbrev pub used : {A : Type 0} → World A → ℕ → ℕ
used w c = length (pending w c).notices + owed w.history c

-- the world whose mailbox of this client may hold this much
abbrev pub with_limit : {A : Type 0} → World A → ℕ → ℕ → World A
with_limit w c limit = record {
  floor = w.floor;
  limits = w.limits;
  ties = w.ties;
  turns = w.turns;
  number = w.number;
  history = w.history;
  mailboxes = slice_set w.mailboxes c (record { notices = (pending w c).notices; limit = limit });
}

-- the client's mailbox was widened, if at all, to no more than what it is used for and two for each of n orders
pub record Widens {A : Type 0} (w : World A) (c n : ℕ) (v : World A) : Type 0 where
  pub limit : ℕ
  pub world : v ≡ with_limit w c limit
  pub at_least : (pending w c).limit ≤ limit
  pub at_most : (limit ≡ (pending w c).limit) ⊎ (limit ≤ used w c + 2 * n)

-- the next of n orders of the client was taken, in a mailbox with room for it
pub record TakesNext {A : Type 0} (w : World A) (c n : ℕ) (v : World A) : Type 0 where
  pub wide : World A
  pub widens : Widens w c n wide
  pub order : Order
  pub verdict : Verdict
  pub takes : Takes wide c order verdict v

-- orders of one client were taken, of n that were left in its lane, and its mailbox was widened; no more was done
pub record Drains {A : Type 0} (w : World A) (c n : ℕ) (v : World A) : Type 0 where
  pub more : List (Entry A)
  pub takes : All (λ e. is_take_of c e ≡ true) more
  pub history : v.history ≡ with_entries w.history (w.history.entries ++ more)
  pub floor : v.floor ≡ w.floor
  pub limits : v.limits ≡ w.limits
  pub ties : v.ties ≡ w.ties
  pub turns : v.turns ≡ w.turns
  pub number : v.number ≡ w.number
  pub box_count : length v.mailboxes ≡ length w.mailboxes
  pub others : (k : ℕ) → k < length w.mailboxes → k ≢ c → pending v k ≡ pending w k
  pub wide : ((pending v c).limit ≡ (pending w c).limit) ⊎ ((pending v c).limit ≤ used w c + 2 * n)

-- the lanes of the first k clients were emptied, one after another: of each all the orders that were left in it were taken
abbrev pub DrainsFirst : {A : Type 0} → ℕ → List (EndView A) → List (ClientCore A) → World A → World A → Type 0
DrainsFirst zero ends cs w v = v ≡ w
DrainsFirst {A} (suc k) ends cs w v =
    (mid : World A) × (n : ℕ) × AreLeft ends cs k n × DrainsFirst k ends cs w mid × ((d : Drains mid k n v) × (length d.more ≡ n))

-- the same, until a take was refused in the lane of some client, where an order was left
pub record StopsDraining {A : Type 0} (count : ℕ) (ends : List (EndView A)) (cs : List (ClientCore A)) (w v : World A) : Type 0 where
  pub client : ℕ
  pub known : client < count
  pub mid : World A
  pub left : ℕ
  pub counted : AreLeft ends cs client left
  pub before : DrainsFirst client ends cs w mid
  pub last : Drains mid client left v
  pub fewer : length last.more < left
