-- Places in queues from which errands were taken.
use Rattle.std.proofs.Common.{◌≡◌, ℕ, zero, suc, ◌+◌, ◌≤◌, inl, inr, List, [], ◌∷◌, ◌++◌, drop, cond, Bool, true, false, Option, Some, sym, refl, ap, ◌∙◌, subst, arith}
use Rattle.std.specs.Prelude.{slice_get, filter}
use Rattle.std.proofs.lemmas.Bool.{cases_Bool}
use Rattle.fleet_history.proofs.Numbers.{slice_get_front}

pub get-below : {X : Type 0} (xs : List X) (i k : ℕ) (x : X) → i ≤ k → slice_get xs k ≡ Some x → (y : X) × (slice_get xs i ≡ Some y)
get-below [] i k x l e = cc
get-below (y ∷ xs) zero k x l e = (y, refl)
get-below (y ∷ xs) (suc i) zero x l e = absurd (omega (arith, l))
get-below (y ∷ xs) (suc i) (suc k) x l e = get-below xs i k x (omega (arith, l)) e

pub get-later : {X : Type 0} (xs : List X) (k : ℕ) (x : X) → slice_get xs (suc k) ≡ Some x → slice_get (drop 1 xs) k ≡ Some x
get-later [] k x e = cc
get-later (y ∷ xs) k x e = e

pub get-earlier : {X : Type 0} (xs : List X) (k : ℕ) (x : X) → slice_get (drop 1 xs) k ≡ Some x → slice_get xs (suc k) ≡ Some x
get-earlier [] k x e = cc
get-earlier (y ∷ xs) k x e = e

same_item : {X : Type 0} (o : Option X) (x y : X) → o ≡ Some x → o ≡ Some y → y ≡ x
same_item o x y e f = cc

-- an item that a filter keeps comes no further back, and what is before it was before it
pub record HasMovedUp {X : Type 0} (old new : List X) (k : ℕ) (x : X) : Type 0 where
  pub place : ℕ
  pub within : place ≤ k
  pub there : slice_get new place ≡ Some x
  pub before : (i : ℕ) (y : X) → i ≤ place → slice_get new i ≡ Some y → (j : ℕ) × (j ≤ k) × (slice_get old j ≡ Some y)

module _ {X : Type 0} (q : X → Bool) where
  kept : (y : X) (xs : List X) → q y ≡ true → filter q (y ∷ xs) ≡ y ∷ filter q xs
  kept y xs here = rw here refl

  dropped : (y : X) (xs : List X) → q y ≡ false → filter q (y ∷ xs) ≡ filter q xs
  dropped y xs out = rw out refl

  moved-first : (y : X) (xs new : List X) (x : X) → new ≡ y ∷ filter q xs → y ≡ x → HasMovedUp (y ∷ xs) new 0 x
  moved-first y xs new x is same = record {
    place = 0;
    within = omega arith;
    there = ap (λ (l : List X). slice_get l 0) is ∙ ap Some same;
    before = λ i z l e. (
        let none : i ≡ 0 = omega (arith, l) in
        (0, omega arith, sym (ap (λ (l : List X). slice_get l 0) is) ∙ (subst (λ (n : ℕ). slice_get new n ≡ Some z) none e)));
  }

  moved-one : (y : X) (xs new : List X) (k : ℕ) (x : X) → new ≡ y ∷ filter q xs → HasMovedUp xs (filter q xs) k x → HasMovedUp (y ∷ xs) new (suc k) x
  moved-one y xs new k x is rest = record {
    place = suc rest.place;
    within = omega (arith, rest.within);
    there = ap (λ (l : List X). slice_get l (suc rest.place)) is ∙ rest.there;
    before = λ i z l e. step i z l (sym (ap (λ (l : List X). slice_get l i) is) ∙ e);
  }
    where
      step : (i : ℕ) (z : X) → i ≤ suc rest.place → slice_get (y ∷ filter q xs) i ≡ Some z → (j : ℕ) × (j ≤ suc k) × (slice_get (y ∷ xs) j ≡ Some z)
      step zero z l e = (0, omega arith, e)
      step (suc i) z l e = let b = rest.before i z (omega (arith, l)) e in (suc b.0, omega (arith, b.1), b.2)

  moved-none : (y : X) (xs new : List X) (k : ℕ) (x : X) → new ≡ filter q xs → HasMovedUp xs (filter q xs) k x → HasMovedUp (y ∷ xs) new (suc k) x
  moved-none y xs new k x is rest = record {
    place = rest.place;
    within = omega (arith, rest.within);
    there = ap (λ (l : List X). slice_get l rest.place) is ∙ rest.there;
    before = λ i z l e. (
        let b = rest.before i z l (sym (ap (λ (l : List X). slice_get l i) is) ∙ e) in
        (suc b.0, omega (arith, b.1), b.2));
  }

  pub moved-up : (xs : List X) (k : ℕ) (x : X) → slice_get xs k ≡ Some x → q x ≡ true → HasMovedUp xs (filter q xs) k x
  moved-up [] k x e keeps = cc
  moved-up (y ∷ xs) zero x e keeps =
      let same : y ≡ x = cc in
      moved-first y xs (filter q (y ∷ xs)) x (kept y xs (ap q same ∙ keeps)) same
  moved-up (y ∷ xs) (suc k) x e keeps =
      let rest = moved-up xs k x e keeps in
      elim (cases_Bool (q y)) [
        | inl here ↦ moved-one y xs (filter q (y ∷ xs)) k x (kept y xs here) rest
        | inr out ↦ moved-none y xs (filter q (y ∷ xs)) k x (dropped y xs out) rest
      ]

-- also where more joins
pub moved-on : {X : Type 0} (old new more : List X) (k : ℕ) (x : X) → HasMovedUp old new k x → HasMovedUp old (new ++ more) k x
moved-on old new more k x it = record {
  place = it.place;
  within = it.within;
  there = slice_get_front new more x it.place it.there;
  before = λ i y l e. (
      let found = get-below new i it.place x l it.there in
      let same : y ≡ found.0 = same_item (slice_get (new ++ more) i) found.0 y (slice_get_front new more found.0 i found.1) e in
      it.before i y l (found.1 ∙ ap Some (sym same)));
}
