-- Openings that differ in the clock and the waits alone: the same entries are legal after both.
use Rattle.std.proofs.Common.{◌≡◌, ℕ, ◌<◌, inl, inr, List, length, Option, Some, None, refl, sym, ap, subst, ◌∙◌}
use Rattle.fleet_grid.specs.Floor.{Floor}
use Rattle.fleet_grid.specs.Step.{IsConflictFree}
use Rattle.fleet_book.specs.declared.facts.Facts.{Facts}
use Rattle.fleet_book.specs.declared.facts.Place.{Place}
use Rattle.fleet_book.specs.declared.facts.Place.TheVariants.{Absent, Front, Behind}
use Rattle.fleet_book.specs.declared.order.Order.{Order}
use Rattle.fleet_book.specs.declared.order.Order.TheVariants.{Go, Close, Withdraw}
use Rattle.fleet_book.specs.declared.verdict.Verdict.{Verdict}
use Rattle.fleet_book.specs.Rule.{Standing, verdict_of}
use Rattle.fleet_history.specs.declared.history.Arrival.{Arrival}
use Rattle.fleet_history.specs.declared.history.Bye.{Bye}
use Rattle.fleet_history.specs.declared.history.ClientState.{ClientState}
use Rattle.fleet_history.specs.declared.history.Entry.{Entry}
use Rattle.fleet_history.specs.declared.history.Entry.TheVariants.{Take, Tick, Shut}
use Rattle.fleet_history.specs.declared.history.Opening.{Opening}
use Rattle.fleet_history.specs.History.{History, start, after, with_entries, place, unfinished, is_shut}
use Rattle.fleet_history.specs.Legal.{IsInOrder, IsLegal, opened, grown, Fits, IsFarewell, due, leaving, is_none_left}
use Rattle.fleet_history.specs.Verdicts.{AreFacts, IsPlaceOf, IsVerdict, standing}
use Rattle.fleet_trace.specs.Judged.{MayShut, AreStamps, ShownBreaks, Breaks, IsIllegalAt, AreAlike}

abbrev pub behind : {A : Type 0} → Opening A → List (Entry A) → History A
behind o es = with_entries (start o) es

pub flip : {A : Type 0} {o p : Opening A} → AreAlike o p → AreAlike p o
flip k = record {
  queue = sym k.queue;
  life = sym k.life;
  clients = sym k.clients;
  count = sym k.count;
  cells = sym k.cells;
  shut = sym k.shut;
  errands = sym k.errands;
  arrival_laws = sym k.arrival_laws;
  farewell_laws = sym k.farewell_laws;
}

module _ {A : Type 0} (m : Floor) (o p : Opening A) (k : AreAlike o p) (es : List (Entry A)) where
  place-same : place (behind p es) ≡ place (behind o es)
  place-same = rw (k.cells) refl

  unfinished-same : (r : ℕ) → unfinished (behind p es) r ≡ unfinished (behind o es) r
  unfinished-same r = rw (k.errands) refl

  shut-same : (r : ℕ) → is_shut (behind p es) r ≡ is_shut (behind o es) r
  shut-same r = rw (k.shut) refl

  pub due-same : (to : List ℕ) → due (behind p es) to ≡ due (behind o es) to
  due-same to = rw (k.count, k.errands) refl

  pub leaving-same : (to : List ℕ) (arrived : List Arrival) (farewells : List Bye) → leaving (behind p es) (after (behind p es) (Tick to arrived farewells)) ≡ leaving (behind o es) (after (behind o es) (Tick to arrived farewells))
  leaving-same to arrived farewells = rw (k.count, k.shut, k.errands) refl

  standing-same : (c : ℕ) (order : Order) → standing (behind p es) c order ≡ standing (behind o es) c order
  standing-same c (Go robot cell) = rw (k.clients, k.life, k.shut) refl
  standing-same c Close = rw (k.clients, k.life) refl
  standing-same c (Withdraw n) = rw (k.clients, k.life) refl

  place-of : (c n : ℕ) (x : Place) → IsPlaceOf (behind o es) c n x → IsPlaceOf (behind p es) c n x
  place-of c n Absent h = rw (k.count, k.errands) h
  place-of c n Front h = rw (k.count, k.errands) h
  place-of c n Behind h = rw (k.count, k.errands) h

  facts : (c : ℕ) (order : Order) (f : Facts) → AreFacts m (behind o es) c order f → AreFacts m (behind p es) c order f
  facts c (Go robot cell) f h = record {
    known = rw (k.count) h.known;
    range = h.range;
    floor = h.floor;
    part = rw (k.count, k.cells) h.part;
    full = rw (k.count, k.errands, k.queue) h.full;
  }
  facts c Close f h = h
  facts c (Withdraw n) f h = place-of c n f.place h

  pub verdict : (c : ℕ) (order : Order) (v : Verdict) → IsVerdict m (behind o es) c order v → IsVerdict m (behind p es) c order v
  verdict c order v h = record {
    facts = h.facts;
    are_facts = facts c order h.facts h.are_facts;
    judged = h.judged ∙ ap (λ (s : Standing). verdict_of order s h.facts) (sym (standing-same c order));
  }

  farewell : (robot : ℕ) (stamp : Option ℕ) → IsFarewell (behind o es) robot stamp → IsFarewell (behind p es) robot stamp
  farewell robot None h = tt
  farewell robot (Some stamp) h = rw (k.farewell_laws) h

  pub fits : (e : Entry A) → Fits m (behind o es) e → Fits m (behind p es) e
  fits (Take client order v) h = (rw (k.clients) h.0, verdict client order v h.1)
  fits (Tick to arrived farewells) h = record {
    step = rw place-same h.step;
    shows = h.shows ∙ sym (due-same to);
    stamps = rw (k.arrival_laws) h.stamps;
    leaves = h.leaves ∙ sym (leaving-same to arrived farewells);
    last_stamps = rw (k.farewell_laws) h.last_stamps;
  }
  fits (Shut robot stamp) h = record {
    known = rw (k.count) h.known;
    first = shut-same robot ∙ h.first;
    leaves = rw (unfinished-same robot) h.leaves;
    stamp = farewell robot stamp h.stamp;
  }

  -- ---- what breaks a rule after the one breaks it after the other

  stamps-alike : (arrived : List Arrival) (farewells : List Bye) → AreStamps (behind o es) arrived farewells → AreStamps (behind p es) arrived farewells
  stamps-alike arrived farewells h = (rw (k.arrival_laws) h.0, rw (k.farewell_laws) h.1)

  may-shut : (robot : ℕ) → MayShut (behind o es) robot → MayShut (behind p es) robot
  may-shut robot h = (rw (k.count) h.0, shut-same robot ∙ h.1)

module _ {A : Type 0} (m : Floor) (o p : Opening A) (k : AreAlike o p) (es : List (Entry A)) where
  shown-alike : (to : List ℕ) (arrived : List Arrival) (farewells : List Bye) (n : ℕ) → ShownBreaks (behind o es) to arrived farewells n → ShownBreaks (behind p es) to arrived farewells n
  shown-alike to arrived farewells n (inl b) = inl (b.0, λ shows. b.1 (shows ∙ due-same m o p k es to))
  shown-alike to arrived farewells n (inr (inl b)) = inr (inl (b.0, b.1 ∙ sym (due-same m o p k es to), λ leaves. b.2 (leaves ∙ leaving-same m o p k es to arrived farewells)))
  shown-alike to arrived farewells n (inr (inr b)) =
      inr (inr (b.0, b.1 ∙ sym (due-same m o p k es to), b.2 ∙ sym (leaving-same m o p k es to arrived farewells), λ stamps. b.3 (stamps-alike m p o (flip k) es arrived farewells stamps)))

  breaks : (e : Entry A) (n : ℕ) → Breaks m (behind o es) e n → Breaks m (behind p es) e n
  breaks (Take client order v) n (inl b) = inl (b.0, λ known. b.1 (subst (λ (xs : List ClientState). client < length xs) k.clients known))
  breaks (Take client order v) n (inr b) =
      inr (b.0, subst (λ (xs : List ClientState). client < length xs) (sym k.clients) b.1, λ is. b.2 (verdict m p o (flip k) es client order v is))
  breaks (Tick to arrived farewells) n (inl b) = inl (b.0, λ step. b.1 (subst (λ (cells : List ℕ). IsConflictFree m cells to) (place-same m o p k es) step))
  breaks (Tick to arrived farewells) n (inr b) =
      inr (subst (λ (cells : List ℕ). IsConflictFree m cells to) (sym (place-same m o p k es)) b.0, shown-alike to arrived farewells n b.1)
  breaks (Shut robot stamp) n (inl b) = inl (b.0, λ may. b.1 (may-shut m p o (flip k) es robot may))
  breaks (Shut robot stamp) n (inr (inl b)) =
      inr (inl (b.0, may-shut m o p k es robot b.1, λ leaves. b.2 (leaves ∙ ap is_none_left (unfinished-same m o p k es robot))))
  breaks (Shut robot stamp) n (inr (inr b)) =
      inr (inr (b.0, may-shut m o p k es robot b.1, b.2 ∙ ap is_none_left (sym (unfinished-same m o p k es robot)), λ last. b.3 (farewell m p o (flip k) es robot stamp last)))

pub legal-alike : {A : Type 0} (m : Floor) (p : Opening A) (g : History A) → IsInOrder m p → AreAlike g.opening p → IsLegal m g → IsLegal m (behind p g.entries)
legal-alike m p g order k (opened i) = opened order
legal-alike m p g order k (grown {h} e legal f same) =
    let alike : AreAlike h.opening p = subst (λ (x : History _). AreAlike x.opening p) same k in
    grown e (legal-alike m p h order alike legal) (fits m h.opening p alike h.entries e f) (ap (λ (x : History _). behind p x.entries) same)

pub illegal-alike : {A : Type 0} (m : Floor) (o p : Opening A) (es : List (Entry A)) (at rule : ℕ) → IsInOrder m p → AreAlike o p → IsIllegalAt m (behind o es) at rule → IsIllegalAt m (behind p es) at rule
illegal-alike m o p es at rule order k h = record {
  before = h.before;
  entry = h.entry;
  behind = h.behind;
  splits = h.splits;
  place = h.place;
  legal = legal-alike m p (behind o h.before) order k h.legal;
  breaks = breaks m o p k h.before h.entry rule h.breaks;
}
