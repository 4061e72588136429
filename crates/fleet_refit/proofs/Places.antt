-- Where robots stand, after a change.
use Rattle.std.proofs.Common.{◌≡◌, ◌≢◌, ◌∙◌, ◌<◌, ◌≤◌, ◌⊎◌, ℕ, zero, suc, List, [], ◌∷◌, ◌++◌, Some, None, Bool, true, false, not, ap, arith, inl, inr, refl, subst, sym, length, cond, get_or}
use Rattle.std.specs.Prelude.{IsTrue, slice_get, slice_set, ◌==◌, nat_lt}
use Rattle.std.specs.List.{position, position_or_len}
use Rattle.std.proofs.lemmas.Bool.{cases_lt, eq-eqb, eqb-true, and_parts, lt-ltb}
use Rattle.std.proofs.lemmas.List.{get_or-set_other}
use Rattle.std.proofs.lemmas.List.Quantifiers.{position-Some}
use Rattle.std.proofs.lemmas.List.Sums.{fails_before_first}
use Rattle.std.proofs.lemmas.Option.{get_or_from_slice_get, slice_get-get_or, slice_get_within}
use Rattle.fleet_grid.specs.Floor.{Floor, IsFloor, is_floor, is_floor_letter}
use Rattle.fleet_refit.specs.declared.change.Dropped.{Dropped}
use Rattle.fleet_refit.specs.declared.seat.Seat.{Seat}
use Rattle.fleet_refit.specs.Fault.{stands_on}
use Rattle.fleet_refit.specs.InOrder.{AreStanding}
use Rattle.fleet_refit.specs.Map.{with_letter}
use Rattle.fleet_refit.specs.Site.{is_gone}
use Rattle.fleet_refit.proofs.Losing.{LosesThere}
use Rattle.fleet_refit.proofs.Steps.{Steps, steps-at}

-- ---- lists

-- what is at a place once one place was written
pub get-set : {X : Type 0} (xs : List X) (k r : ℕ) (new y : X) → slice_get (slice_set xs k new) r ≡ Some y → ((r ≡ k) × (y ≡ new)) ⊎ (slice_get xs r ≡ Some y)
get-set [] k r new y at = inr at
get-set (x ∷ xs) zero zero new y at = let same : new ≡ y = cc in inl (refl, sym same)
get-set (x ∷ xs) zero (suc r) new y at = inr at
get-set (x ∷ xs) (suc k) zero new y at = inr at
get-set (x ∷ xs) (suc k) (suc r) new y at = elim (get-set xs k r new y at) [ inl p ↦ inl (ap suc p.0, p.1) | inr there ↦ inr there ]

-- what is at a place of a list that is one longer
pub get-push : {X : Type 0} (xs : List X) (r : ℕ) (new y : X) → slice_get (xs ++ new ∷ []) r ≡ Some y → ((r ≡ length xs) × (y ≡ new)) ⊎ (slice_get xs r ≡ Some y)
get-push [] zero new y at = let same : new ≡ y = cc in inl (refl, sym same)
get-push [] (suc r) new y at = cc
get-push (x ∷ xs) zero new y at = inr at
get-push (x ∷ xs) (suc r) new y at = elim (get-push xs r new y at) [ inl p ↦ inl (ap suc p.0, p.1) | inr there ↦ inr there ]

pub same-at : {X : Type 0} (xs : List X) (r : ℕ) (x y : X) → slice_get xs r ≡ Some x → slice_get xs r ≡ Some y → x ≡ y
same-at xs r x y here there = sym (get_or_from_slice_get xs r x x here) ∙ get_or_from_slice_get xs r y x there

-- ---- robots that remain

pub standing-steps : {A : Type 0} (m : Floor) (xs ys : List (Seat A)) (out : List Dropped) → Steps LosesThere 0 xs ys out → AreStanding m xs → AreStanding m ys
standing-steps {A} m xs ys out steps are = record {
  on_floor = λ r y at here.
      let (x, was, lost, both) = steps-at 0 xs ys out steps r y at in
      subst (IsFloor m) (sym both.0.cell) (are.on_floor r x was (both.0.there here));
  apart = λ r q y z at there one two same.
      let (x, was, lost, first) = steps-at 0 xs ys out steps r y at in
      let (w, were, left, second) = steps-at 0 xs ys out steps q z there in
      are.apart r q x w was were (first.0.there one) (second.0.there two) (sym first.0.cell ∙ same ∙ second.0.cell);
}

-- ---- who stands on a cell

found : (n m : ℕ) → n < m → cond (nat_lt n m) (Some n) None ≡ None → ⊥
found n m less none = let t : nat_lt n m ≡ true = lt-ltb n m less in let z : Some n ≡ None = ap (λ b. cond b (Some n) None) (sym t) ∙ none in cc

-- nobody is first, so nobody is there
pub nobody : {X : Type 0} (p : X → Bool) (xs : List X) (r : ℕ) (x : X) → position p xs ≡ None → slice_get xs r ≡ Some x → p x ≡ false
nobody p xs r x none at =
    let inside : r < length xs = slice_get_within xs r x at in
    let past : length xs ≤ position_or_len p xs = elim (cases_lt (position_or_len p xs) (length xs)) [ inl l ↦ absurd (found (position_or_len p xs) (length xs) l none) | inr l ↦ l ] in
    ap p (sym (get_or_from_slice_get xs r x x at)) ∙ fails_before_first p xs r x (omega (arith, inside, past))

on-it : {A : Type 0} (cell : ℕ) (x : Seat A) → is_gone x.standing ≡ false → x.robot.cell ≡ cell → stands_on cell x ≡ true
on-it cell x here is = rw (here) (eq-eqb x.robot.cell cell is)

-- nobody stands on that cell
abbrev pub IsFree : {A : Type 0} → List (Seat A) → ℕ → Type 0
IsFree {A} seats cell = (r : ℕ) (x : Seat A) → slice_get seats r ≡ Some x → is_gone x.standing ≡ false → x.robot.cell ≢ cell

pub free : {A : Type 0} (seats : List (Seat A)) (cell : ℕ) → position (stands_on cell) seats ≡ None → IsFree seats cell
free seats cell none r x at here is = let z : true ≡ false = sym (on-it cell x here is) ∙ nobody (stands_on cell) seats r x none at in cc

-- ---- letters

other-floor : (m : Floor) (cell letter c : ℕ) → c ≢ cell → IsFloor m c → IsFloor (with_letter m cell letter) c
other-floor m cell letter c apart floor =
    subst (λ l. IsTrue (is_floor_letter l)) (sym (get_or-set_other m.letters cell c letter 0 apart)) floor

pub standing-letter : {A : Type 0} (m : Floor) (seats : List (Seat A)) (cell letter : ℕ) → IsFree seats cell → AreStanding m seats → AreStanding (with_letter m cell letter) seats
standing-letter m seats cell letter nowhere are = record {
  on_floor = λ r x at here. other-floor m cell letter x.robot.cell (nowhere r x at here) (are.on_floor r x at here);
  apart = are.apart;
}

-- a cell that is no floor is free
pub wall-free : {A : Type 0} (m : Floor) (seats : List (Seat A)) (cell : ℕ) → is_floor m cell ≡ false → AreStanding m seats → IsFree seats cell
wall-free m seats cell wall are r x at here is =
    let floor : IsFloor m cell = subst (IsFloor m) is (are.on_floor r x at here) in
    let z : true ≡ false = sym floor ∙ wall in cc

-- ---- a robot more

pub standing-more : {A : Type 0} (m : Floor) (seats : List (Seat A)) (new : Seat A) → IsFree seats new.robot.cell → IsFloor m new.robot.cell → AreStanding m seats → AreStanding m (seats ++ new ∷ [])
standing-more {A} m seats new nowhere floor are = record {
  on_floor = λ r x at here. elim (get-push seats r new x at) [
    | inl p ↦ subst (λ (z : Seat A). IsFloor m z.robot.cell) (sym p.1) floor
    | inr was ↦ are.on_floor r x was here
  ];
  apart = λ r q x y at there one two same. elim (get-push seats r new x at) [
    | inl p ↦ elim (get-push seats q new y there) [
      | inl o ↦ p.0 ∙ sym o.0
      | inr were ↦ absurd (nowhere q y were two (sym same ∙ ap (λ z. z.robot.cell) p.1))
    ]
    | inr was ↦ elim (get-push seats q new y there) [
      | inl o ↦ absurd (nowhere r x was one (same ∙ ap (λ z. z.robot.cell) o.1))
      | inr were ↦ are.apart r q x y was were one two same
    ]
  ];
}

-- ---- a robot on another cell

-- nobody but that robot stands on the cell
abbrev pub IsFreeFor : {A : Type 0} → List (Seat A) → ℕ → ℕ → Type 0
IsFreeFor {A} seats me cell = (r : ℕ) (x : Seat A) → slice_get seats r ≡ Some x → is_gone x.standing ≡ false → x.robot.cell ≡ cell → r ≡ me

pub standing-moved : {A : Type 0} (m : Floor) (seats : List (Seat A)) (me : ℕ) (new : Seat A) → IsFreeFor seats me new.robot.cell → IsFloor m new.robot.cell → AreStanding m seats →
    AreStanding m (slice_set seats me new)
standing-moved {A} m seats me new mine floor are = record {
  on_floor = λ r x at here. elim (get-set seats me r new x at) [
    | inl p ↦ subst (λ (z : Seat A). IsFloor m z.robot.cell) (sym p.1) floor
    | inr was ↦ are.on_floor r x was here
  ];
  apart = λ r q x y at there one two same. elim (get-set seats me r new x at) [
    | inl p ↦ elim (get-set seats me q new y there) [
      | inl o ↦ p.0 ∙ sym o.0
      | inr were ↦ p.0 ∙ sym (mine q y were two (sym same ∙ ap (λ z. z.robot.cell) p.1))
    ]
    | inr was ↦ elim (get-set seats me q new y there) [
      | inl o ↦ mine r x was one (same ∙ ap (λ z. z.robot.cell) o.1) ∙ sym o.0
      | inr were ↦ are.apart r q x y was were one two same
    ]
  ];
}

negated : (b : Bool) → not b ≡ true → b ≡ false
negated true e = sym e
negated false e = refl

-- who alone stands on a cell is the first who does
pub free-for : {A : Type 0} (m : Floor) (seats : List (Seat A)) (me cell : ℕ) → AreStanding m seats → (position (stands_on cell) seats ≡ None) ⊎ (position (stands_on cell) seats ≡ Some me) →
    IsFreeFor seats me cell
free-for {A} m seats me cell are first r x at here is = elim first [
  | inl none ↦ absurd (free seats cell none r x at here is)
  | inr found ↦ first-mine found
]
  where
    first-mine : position (stands_on cell) seats ≡ Some me → r ≡ me
    first-mine found =
        let (inside, stands, before) = position-Some (stands_on cell) seats me x found in
        let y : Seat A = get_or seats me x in
        let read : slice_get seats me ≡ Some y = slice_get-get_or seats me x inside in
        let parts = and_parts (not (is_gone y.standing)) (y.robot.cell == cell) stands in
        are.apart r me x y at read here (negated (is_gone y.standing) parts.0) (is ∙ sym (eqb-true y.robot.cell cell parts.1))
