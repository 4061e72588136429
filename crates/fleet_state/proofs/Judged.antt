-- The verdict rule, by the state and by the history.
use Rattle.std.proofs.Common.{◌≡◌, ℕ, ◌*◌, ◌<◌, ◌≤◌, length, Bool, true, false, sym, refl, ap, ◌∙◌, arith, inl, inr}
use Rattle.std.specs.Prelude.{slice_index, nat_lt, nat_eq, ◌↔◌, IsTrue}
use Rattle.std.proofs.lemmas.List.{get_or_past}
use Rattle.std.proofs.lemmas.Bool.{ltb-true, lt-ltb, eqb-true, eq-eqb, cases_lt}
use Rattle.fleet_grid.specs.Floor.{Floor, IsFloor, IsNeighbour}
use Rattle.fleet_grid.specs.Walk.{AreJoined}
use Rattle.fleet_queue.specs.Queue.{Queue, is_of}
use Rattle.fleet_book.specs.declared.facts.Facts.{Facts}
use Rattle.fleet_book.specs.declared.facts.Place.{Place}
use Rattle.fleet_book.specs.declared.facts.Place.TheVariants.{Absent, Front, Behind}
use Rattle.fleet_book.specs.declared.order.Order.{Order}
use Rattle.fleet_book.specs.declared.order.Order.TheVariants.{Go, Close, Withdraw}
use Rattle.fleet_book.specs.declared.verdict.Verdict.{Verdict}
use Rattle.fleet_book.specs.declared.verdict.Verdict.TheVariants.{Accepted}
use Rattle.fleet_book.specs.Counts as book
use Rattle.fleet_book.specs.Rule.{verdict_of}
use Rattle.fleet_history.specs.History.{History, robots, clients, place, unfinished, is_shut}
use Rattle.fleet_history.specs.Verdicts.{AreFacts, AreGoFacts, IsPlaceOf, IsVerdict, place_in, standing}
use Rattle.fleet_history.proofs.InOrder.{legal-room}
use Rattle.fleet_history.proofs.Legal.{accepted-robot}
use Rattle.fleet_state.specs.Robots.{queue_at, HasPlace, IsPlaceAmong}
use Rattle.fleet_state.specs.State.{State, IsStateOf, HasFullRooms}
use Rattle.fleet_state.proofs.Parts.{account-of, shut-at, shut-count, queue-of, queue-count}
use Rattle.fleet_state.proofs.Laws.{legal-unshut, room-left, both_ways}

pub facts-are : {A : Type 0} (m : Floor) (h : History A) (robot cell n len queue : ℕ) (floor part : Bool) → robot < robots h → n ≡ m.height * m.width →
    (IsTrue floor ↔ IsFloor m cell) → (IsFloor m cell → IsTrue part ↔ AreJoined (IsNeighbour m) (slice_index (place h) robot) cell) →
    len ≡ length (unfinished h robot) → queue ≡ h.opening.queue →
    AreGoFacts m h robot cell (record { robot_known = true; in_range = nat_lt cell n; floor = floor; same_part = part; queue_full = nat_eq len queue; place = Absent })
facts-are m h robot cell n len queue floor part known size is_floor joined many most = record {
  known = (λ e. known, λ l. refl);
  range = (λ e. omega (arith, ltb-true cell n e), λ l. lt-ltb cell n (omega arith));
  floor = is_floor;
  part = λ l f. joined f;
  full = λ l. (λ e. omega (arith, eqb-true len queue e), λ e. eq-eqb len queue (omega arith));
}

-- of a robot that is none
pub facts-unknown : {A : Type 0} (m : Floor) (h : History A) (robot cell n : ℕ) (floor : Bool) → robots h ≤ robot → n ≡ m.height * m.width → (IsTrue floor ↔ IsFloor m cell) →
    AreGoFacts m h robot cell (record { robot_known = false; in_range = nat_lt cell n; floor = floor; same_part = false; queue_full = false; place = Absent })
facts-unknown m h robot cell n floor past size is_floor = record {
  known = (λ e. absurd (both_ways false refl e), λ l. absurd (omega arith));
  range = (λ e. omega (arith, ltb-true cell n e), λ l. lt-ltb cell n (omega arith));
  floor = is_floor;
  part = λ l f. absurd (omega arith);
  full = λ l. absurd (omega arith);
}

module _ {A : Type 0} {m : Floor} {h : History A} {s : State A} (k : IsStateOf m h s) where
  -- the shut robots of the book are those of the history, also among robots that are none
  pub shut-of-all : (r : ℕ) → book.is_shut s.counts r ≡ is_shut h r
  shut-of-all r =
      elim (cases_lt r (robots h)) [
        | inl l ↦ shut-at k r l
        | inr l ↦ get_or_past s.counts.shut r false (omega (arith, shut-count k)) ∙ sym (legal-unshut m h r k.legal l)
      ]

  -- what counts for an order, by the book and by the history
  standing-same : (c : ℕ) (order : Order) → c < clients h → book.standing s.counts c order ≡ standing h c order
  standing-same c (Go robot cell) l = rw (account-of k c l, shut-of-all robot, ap (λ (s : State A). s.counts.life) k.is) refl
  standing-same c Close l = rw (account-of k c l, ap (λ (s : State A). s.counts.life) k.is) refl
  standing-same c (Withdraw n) l = rw (account-of k c l, ap (λ (s : State A). s.counts.life) k.is) refl

  pub verdict-is : (c : ℕ) (order : Order) (f : Facts) (v : Verdict) → c < clients h → AreFacts m h c order f → v ≡ verdict_of order (book.standing s.counts c order) f → IsVerdict m h c order v
  verdict-is c order f v l are e = record {
    facts = f;
    are_facts = are;
    judged = e ∙ ap (λ x. verdict_of order x f) (standing-same c order l);
  }

  -- an accepted errand finds room, where the queues have room for what robots may have
  pub has-place : (c : ℕ) (order : Order) (v : Verdict) → IsVerdict m h c order v → HasFullRooms s → HasPlace s.queues order v
  has-place c (Go robot cell) (Accepted n) is enough =
      let known = accepted-robot m h c n robot cell is in
      let left = room-left m h c n robot cell is (legal-room m h robot k.legal known) in
      rw (queue-of k robot known) (omega (arith, left, enough robot (omega (arith, known, queue-count k)), ap (λ (s : State A). s.queue) k.is))
  has-place c (Go robot cell) v is enough = tt
  has-place c Close v is enough = tt
  has-place c (Withdraw n) v is enough = tt

  pub items-of : (r : ℕ) → r < robots h → (queue_at s.queues r).items ≡ unfinished h r
  items-of r l = ap (λ (q : Queue). q.items) (queue-of k r l)

  -- where the queues have an errand, the history has it
  pub place-among : (c number : ℕ) (p : Place) → IsPlaceAmong s.queues c number p → IsPlaceOf h c number p
  place-among c number Absent none = λ r l. ap (place_in (is_of c number)) (sym (items-of r l)) ∙ none r (omega (arith, queue-count k))
  place-among c number Front at =
      let l : at.0 < robots h = omega (arith, at.1, queue-count k) in
      (at.0, l, ap (place_in (is_of c number)) (sym (items-of at.0 l)) ∙ at.2)
  place-among c number Behind at =
      let l : at.0 < robots h = omega (arith, at.1, queue-count k) in
      (at.0, l, ap (place_in (is_of c number)) (sym (items-of at.0 l)) ∙ at.2)
