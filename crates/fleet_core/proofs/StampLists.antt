-- Stamps that are written one by one.
use Rattle.std.proofs.Common.{◌≡◌, ℕ, zero, suc, ◌+◌, ◌<◌, List, [], ◌∷◌, ◌++◌, length, map, get_or, take, Option, None, sym, refl, ap, ◌∙◌, subst, arith, inl, inr}
use Rattle.std.specs.Prelude.{slice_set, slice_index}
use Rattle.std.proofs.lemmas.List.{map-set, length-map, get_or-map, get_or-set_same, get_or-set_other, get_or-take, length-take-le, take_more}
use Rattle.std.proofs.lemmas.Bool.{cases_eq}
use Rattle.fleet_hooks.specs.declared.law.StampLaw.{StampLaw}
use Rattle.fleet_history.specs.declared.history.Bye.{Bye}
use Rattle.fleet_core.specs.Hooks.{without_all, DoRise}
use Rattle.fleet_core.proofs.Farewells.{spare_law, without-more, without-other}

abbrev pub no_farewell : Bye
no_farewell = record { robot = 0; stamp = 0 }

-- a list with the item put back that it had
pub set-back : {X : Type 0} (xs : List X) (i : ℕ) (x d : X) → x ≡ get_or xs i d → i < length xs → slice_set xs i x ≡ xs
set-back [] i x d e l = absurd (omega arith)
set-back (y ∷ ys) zero x d e l = ap (λ z. z ∷ ys) e
set-back (y ∷ ys) (suc i) x d e l = ap (λ zs. y ∷ zs) (set-back ys i x d e (omega arith))

-- an item that differs in no word that is looked at
pub set-alike : {X Y : Type 0} (f : X → Y) (xs : List X) (i : ℕ) (x d : X) → i < length xs → f x ≡ f (get_or xs i d) → map f (slice_set xs i x) ≡ map f xs
set-alike f xs i x d l e = map-set f xs i x ∙ set-back (map f xs) i (f x) (f d) (e ∙ sym (get_or-map f xs i d (f d) l)) (omega (arith, length-map xs f))

-- one more item is as it should be
pub one-more : {X : Type 0} (P : X → Type 0) (xs : List X) (i : ℕ) (x d : X) → i < length xs → ((k : ℕ) → k < i → P (get_or xs k d)) → P x → (k : ℕ) → k < i + 1 → P (get_or (slice_set xs i x) k d)
one-more P xs i x d l before here k m =
    elim (cases_eq i k) [
      | inl e ↦ subst (λ k. P (get_or (slice_set xs i x) k d)) e (subst P (sym (get_or-set_same xs i x d l)) here)
      | inr ne ↦ subst P (sym (get_or-set_other xs i k x d (λ e. ne (sym e)))) (before k (omega (arith, ne)))
    ]

-- an item that is there does not depend on what stands for none
pub default-any : {X : Type 0} (xs : List X) (k : ℕ) (d e : X) → k < length xs → get_or xs k d ≡ get_or xs k e
default-any [] k d e l = absurd (omega arith)
default-any (x ∷ xs) zero d e l = refl
default-any (x ∷ xs) (suc k) d e l = default-any xs k d e (omega arith)

-- where two lists agree in a word, their items do
pub word-at : {X Y : Type 0} (f : X → Y) (xs ys : List X) (j : ℕ) (d : X) → map f xs ≡ map f ys → j < length xs → j < length ys → f (get_or xs j d) ≡ f (get_or ys j d)
word-at f xs ys j d e lx ly = sym (get_or-map f xs j d (f d) lx) ∙ ap (λ zs. get_or zs j (f d)) e ∙ get_or-map f ys j d (f d) ly

-- a farewell is still there where only lesser robots' were called
pub spare-still : (rs : List ℕ) (j r : ℕ) (spare : List (Option StampLaw)) → DoRise rs → j < length rs → slice_index rs j ≡ r → spare_law (without_all (take j rs) spare) r ≡ spare_law spare r
spare-still rs j r spare rise l at =
    let n = length-take-le j rs (omega arith) in
    without-other (take j rs) r spare (λ i m e. omega (arith, rise i j (omega arith) l, get_or-take j rs i 0 (omega arith)))

pub spent-more : (rs : List ℕ) (j r : ℕ) (spare : List (Option StampLaw)) → j < length rs → slice_index rs j ≡ r → slice_set (without_all (take j rs) spare) r None ≡ without_all (take (j + 1) rs) spare
spent-more rs j r spare l at = sym (ap (λ xs. without_all xs spare) (take_more rs j 0 l ∙ ap (λ k. take j rs ++ k ∷ []) at) ∙ without-more (take j rs) r spare)
