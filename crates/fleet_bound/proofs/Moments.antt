-- A history, seen as a moment of waits.
use Rattle.std.proofs.Common.{◌≡◌, ℕ, ◌+◌, ◌*◌, ◌<◌, ◌≤◌, inl, inr, Option, Some, None, sym, refl, ap, ◌∙◌, subst, arith}
use Rattle.std.specs.Prelude.{max, length, slice_index, unwrap_or}
use Rattle.std.specs.List.{range_with_len}
use Rattle.std.proofs.lemmas.List.{length-map}
use Rattle.std.proofs.lemmas.List.FromFn.{length-range_with_len}
use Rattle.fleet_grid.specs.Floor.{Floor, IsFloor, IsNeighbour}
use Rattle.fleet_grid.specs.Walk.{IsDistance}
use Rattle.fleet_grid.specs.Distance.{distance}
use Rattle.fleet_grid.proofs.Least.{none_or_some}
use Rattle.fleet_grid.proofs.Shortest.{is_distance, distance_is, no_distance}
use Rattle.fleet_queue.specs.declared.errand.Errand.{Errand}
use Rattle.fleet_history.specs.History.{History, robots, place, front}
use Rattle.fleet_history.specs.Legal.{IsLegal}
use Rattle.fleet_history.specs.Waits.{wait}
use Rattle.fleet_history.proofs.Legal.{legal-placement, length-place}
use Rattle.fleet_history.proofs.Reach.{front-reach}
use Rattle.fleet_pibt.specs.Eldest.{IsEldest}
use Rattle.fleet_pibt.specs.Order.{ComesBefore}
use Rattle.fleet_planner.specs.Planned.{waits, goals, goal_of, cell_of}
use Rattle.fleet_planner.proofs.Lists.{item_of}
use Rattle.fleet_bound.specs.Waiting as waiting
use Rattle.fleet_bound.specs.Waiting.{Moment, IsWithin, IsBounded}
use Rattle.fleet_bound.specs.Reach.{reach}
use Rattle.fleet_bound.specs.Bound.{count_before, KeepsBound}
use Rattle.fleet_bound.proofs.Reach.{reach-positive, reach-within}
use Rattle.fleet_bound.proofs.Fronts.{front-waits}

front_of : (o : Option Errand) (g : ℕ) → cell_of o ≡ Some g → (f : Errand) × (o ≡ Some f) × (f.cell ≡ g)
front_of None g e = cc
front_of (Some f) g e = (f, refl, cc)

-- how far a cell is from the front errand's
abbrev pub away_from : Floor → ℕ → Option Errand → ℕ
away_from m cell None = 0
away_from m cell (Some f) = unwrap_or (distance m cell f.cell) 0

abbrev pub moment : {A : Type 0} → Floor → History A → Moment
moment m h = record { wait = wait h; away = λ r. away_from m (slice_index (place h) r) (front h r) }

known-within : (m : Floor) (a b : ℕ) (o : Option ℕ) → distance m a b ≡ o → unwrap_or o 0 ≤ reach m
known-within m a b None e = omega arith
known-within m a b (Some d) e = reach-within m a b d (distance_is m a b d e)

away-within : (m : Floor) (cell : ℕ) (o : Option Errand) → away_from m cell o ≤ reach m
away-within m cell None = omega arith
away-within m cell (Some f) = known-within m cell f.cell (distance m cell f.cell) refl

pub within-moment : {A : Type 0} (m : Floor) (h : History A) (n : ℕ) → IsWithin n (reach m) (moment m h)
within-moment m h n = record { positive = reach-positive m; near = λ r w known waits. away-within m (slice_index (place h) r) (front h r) }

-- ---- the eldest

module _ {A : Type 0} (m : Floor) (h : History A) where
  length-waits : length (waits h) ≡ robots h
  length-waits = length-map (range_with_len 0 (robots h)) (wait h) ∙ length-range_with_len 0 (robots h)

  pub eldest-of : (e : ℕ) → waiting.IsEldest (robots h) (moment m h) e → IsEldest (waits h) e
  eldest-of e eldest = record {
    known = omega (arith, eldest.known, length-waits);
    age = eldest.age;
    waits = item_of (wait h) (robots h) e eldest.known ∙ eldest.waits;
    first = λ r l ne. (let known : r < robots h = omega (arith, l, length-waits) in
        subst (λ (o : Option ℕ). ComesBefore (Some eldest.age) o e r) (sym (item_of (wait h) (robots h) r known)) (eldest.first r known ne));
  }

  pub eldest-is : (e : ℕ) → IsEldest (waits h) e → waiting.IsEldest (robots h) (moment m h) e
  eldest-is e eldest =
      let known : e < robots h = omega (arith, eldest.known, length-waits) in
      record {
        known = known;
        age = eldest.age;
        waits = sym (item_of (wait h) (robots h) e known) ∙ eldest.waits;
        first = λ r l ne. subst (λ (o : Option ℕ). ComesBefore (Some eldest.age) o e r) (item_of (wait h) (robots h) r l) (eldest.first r (omega (arith, l, length-waits)) ne);
      }

  pub goal-is : (e : ℕ) (f : Errand) → e < robots h → front h e ≡ Some f → goal_of (goals h) e ≡ Some f.cell
  goal-is e f known is = item_of (λ r. cell_of (front h r)) (robots h) e known ∙ ap cell_of is

  pub goal-front : (e g : ℕ) → e < robots h → goal_of (goals h) e ≡ Some g → (f : Errand) × (front h e ≡ Some f) × (f.cell ≡ g)
  goal-front e g known is = front_of (front h e) g (sym (item_of (λ r. cell_of (front h r)) (robots h) e known) ∙ is)

  pub away-is : (e far : ℕ) (f : Errand) → front h e ≡ Some f → distance m (slice_index (place h) e) f.cell ≡ Some far → (moment m h).away e ≡ far
  away-is e far f is d = ap (away_from m (slice_index (place h) e)) is ∙ ap (λ (o : Option ℕ). unwrap_or o 0) d

-- ---- the bound, of the history and of its moment

module _ {A : Type 0} (m : Floor) (h : History A) (legal : IsLegal m h) where
  pub on_floor : (r : ℕ) → r < robots h → IsFloor m (slice_index (place h) r)
  on_floor r known = (legal-placement m h legal).on_floor r (omega (arith, length-place m h legal))

  -- a front can be reached, so its distance is known
  pub front-far : (r : ℕ) (f : Errand) → r < robots h → front h r ≡ Some f → (d : ℕ) × (distance m (slice_index (place h) r) f.cell ≡ Some d)
  front-far r f known is = elim (none_or_some (distance m (slice_index (place h) r) f.cell)) [
    | inl none ↦ (let joined = (front-reach m h r f legal known is).joined in absurd (no_distance m (slice_index (place h) r) f.cell (on_floor r known) none joined.steps joined.walk))
    | inr some ↦ (some.0, some.1)
  ]

  pub keeps-bounded : KeepsBound m h → IsBounded (robots h) (reach m) (moment m h)
  keeps-bounded keeps = record {
    each = λ r w e known waits_so eldest. (
        let found = front-waits h e eldest.age eldest.waits in
        let f : Errand = found.0 in
        let far = front-far e f eldest.known found.1 in
        let room = keeps.each r w e f.cell far.0 known waits_so (eldest-of m h e eldest) (goal-is m h e f eldest.known found.1) (distance_is m (slice_index (place h) e) f.cell far.0 far.1) in
        subst (λ (a : ℕ). w + max 1 a + count_before h r w * reach m ≤ robots h * reach m) (sym (away-is m h e far.0 f found.1 far.1)) room);
  }

-- the robots stand on floor cells
abbrev pub StandsOnFloor : {A : Type 0} → Floor → History A → Type 0
StandsOnFloor m h = (r : ℕ) → r < robots h → IsFloor m (slice_index (place h) r)

pub bounded-keeps : {A : Type 0} (m : Floor) (h : History A) → StandsOnFloor m h → IsBounded (robots h) (reach m) (moment m h) → KeepsBound m h
bounded-keeps m h floor bounded = record {
  each = λ r w e g far known waits_so eldest goal is. (
      let mine = eldest-is m h e eldest in
      let found = goal-front m h e g mine.known goal in
      let there : IsDistance (IsNeighbour m) (slice_index (place h) e) found.0.cell far = subst (λ c. IsDistance (IsNeighbour m) (slice_index (place h) e) c far) (sym found.2) is in
      let d = is_distance m (slice_index (place h) e) found.0.cell far (floor e mine.known) there in
      subst (λ (a : ℕ). w + max 1 a + count_before h r w * reach m ≤ robots h * reach m) (away-is m h e far found.0 found.1 d) (bounded.each r w e known waits_so mine));
}
