-- A map is pruned round by round, and keeps what is fit.
use Rattle.std.proofs.Common.{◌≡◌, ◌∙◌, ℕ, zero, suc, ◌<◌, ◌≤◌, Bool, true, false, List, [], ◌∷◌, ◌++◌, length, take, drop, map, get_or, refl, sym, subst, ap, arith, count_by, inl, inr, cond}
use Rattle.std.specs.Prelude.{slice_index}
use Rattle.std.proofs.Math.Seq.{take-append_seam}
use Rattle.std.proofs.lemmas.Bool.{cases_Bool, cases_lt, false_from_ne_true}
use Rattle.std.proofs.lemmas.List.{get_or_past}
use Rattle.std.proofs.lemmas.List.Sums.{get_or-le-sum_by}
use Rattle.std.proofs.lemmas.Option.{unwrap_or-slice_get}
use Rattle.fleet_grid.specs.Floor.{Floor, floor_of, is_floor_letter}
use Rattle.fleet_roomy.specs.Unroomy.{AreUnroomy, has}
use Rattle.fleet_survey.specs.Peeled.{IsPeeled, IsPeeledFor}
use Rattle.fleet_survey.specs.Pruned.{AreMarks, IsMapOf, IsPruned, Keeps, Spares, letter_for}
use Rattle.fleet_survey.proofs.Fits.{fit_stays}

has_get : (xs : List Bool) (c : ℕ) → has xs c ≡ get_or xs c false
has_get xs c = unwrap_or-slice_get xs c false

letter_at : (marks : List Bool) (c : ℕ) → is_floor_letter (slice_index (map letter_for marks) c) ≡ get_or marks c false
letter_at [] zero = refl
letter_at [] (suc c) = refl
letter_at (true ∷ marks) zero = refl
letter_at (false ∷ marks) zero = refl
letter_at (b ∷ marks) (suc c) = letter_at marks c

pub map_is : (m p : Floor) (marks : List Bool) (letters : List ℕ) → letters ≡ map letter_for marks → p ≡ floor_of m.height m.width letters → IsMapOf m marks p
map_is m p marks letters are is = subst (IsMapOf m marks) (sym (is ∙ ap (floor_of m.height m.width) are)) (record {
  height = refl;
  width = refl;
  floor = λ c. (λ f. has_get marks c ∙ (sym (letter_at marks c) ∙ f), λ h. letter_at marks c ∙ (sym (has_get marks c) ∙ h));
})

pub map_at : (m p : Floor) (marks : List Bool) (letters : List ℕ) (h w : ℕ) → h ≡ m.height → w ≡ m.width → letters ≡ map letter_for marks → p ≡ floor_of h w letters → IsMapOf m marks p
map_at m p marks letters h w high wide are is = map_is m p marks letters are (is ∙ (ap (λ x. floor_of x w letters) high ∙ ap (λ x. floor_of m.height x letters) wide))

-- a list that is lent and written back whole
written_back : (k : ℕ) (new old : List Bool) → length new ≡ length old → k ≡ length old → take k (new ++ drop (length new) old) ≡ new
written_back k new old same whole = ap (λ (i : ℕ). take i (new ++ drop (length new) old)) (whole ∙ sym same) ∙ take-append_seam new (drop (length new) old)

pub peeled_back : (n : ℕ) (m : Floor) (len : ℕ) (items lent new seen : List Bool) → lent ≡ items → len ≡ length items → seen ≡ take len (new ++ drop (length new) items) → IsPeeledFor n m lent new → IsPeeledFor n m items seen
peeled_back n m len items lent new seen is whole back peeled =
    subst (λ (xs : List Bool). IsPeeledFor n m items xs) (sym (back ∙ written_back len new items (peeled.size ∙ ap length is) whole)) (subst (λ (xs : List Bool). IsPeeledFor n m xs new) is peeled)

pub peeled_for : (n : ℕ) (m : Floor) (a b : List Bool) → 1 < n → IsPeeled m a b → IsPeeledFor n m a b
peeled_for n m a b two is = record { size = is.size; less = is.less; fit = λ s fit within covers. is.fit n s (omega (arith, two)) fit within covers }

pub not_peeled : (n : ℕ) (m : Floor) (a : List Bool) → IsPeeledFor n m a a
not_peeled n m a = record { size = refl; less = λ c is. is; fit = λ s fit within covers. covers }

pub keeps_without : (n : ℕ) (m p : Floor) (others marks peeled : List Bool) → Spares n m others → AreMarks m others marks → IsPeeledFor n m marks peeled → IsMapOf m peeled p → Keeps n m p
keeps_without n m p others marks peeled spares are less is = record {
  within = record { height = is.height; width = is.width; cells = λ c f. ((are.marked c).0 (less.less c ((is.floor c).0 f))).0 };
  fit = λ s fit within. record {
    height = within.height ∙ sym is.height;
    width = within.width ∙ sym is.width;
    cells = λ c f. (is.floor c).1 (less.fit s fit within (λ x fl. (are.marked x).1 (within.cells x fl, spares s fit within x fl)) c f);
  };
}

pub keeps_on : (n : ℕ) (a b c : Floor) → Keeps n a b → Keeps n b c → Keeps n a c
keeps_on n a b c p q = record {
  within = record { height = q.within.height ∙ p.within.height; width = q.within.width ∙ p.within.width; cells = λ x f. p.within.cells x (q.within.cells x f) };
  fit = λ s fit within. q.fit s fit (p.fit s fit within);
}

pub spares_unroomy : (n : ℕ) (m : Floor) (cells : List Bool) → AreUnroomy m n cells → Spares n m cells
spares_unroomy n m cells are s fit within c f = false_from_ne_true (has cells c) (λ is. ((are.exact c).0 is).1 (fit_stays n s m fit within c f))

pub spares_none : (n : ℕ) (m : Floor) (cells : List Bool) → cells ≡ [] → Spares n m cells
spares_none n m cells none s fit within c f = subst (λ (xs : List Bool). has xs c ≡ false) (sym none) (nothing c)
  where
    nothing : (c : ℕ) → has [] c ≡ false
    nothing zero = refl
    nothing (suc c) = refl

one_if : (b : Bool) → b ≡ true → 1 ≤ cond b 1 0
one_if true is = omega arith
one_if false is = absurd cc

none_counted : (xs : List Bool) (c : ℕ) → count_by (λ x. x) xs ≡ 0 → get_or xs c false ≡ false
none_counted xs c e = elim (cases_lt c (length xs)) [
  | inl inside ↦ elim (cases_Bool (get_or xs c false)) [
    | inl is ↦ absurd (
        let most : cond (get_or xs c false) 1 0 ≤ count_by (λ (x : Bool). x) xs = get_or-le-sum_by (λ (x : Bool). cond x 1 0) xs c false inside in
        let one : 1 ≤ cond (get_or xs c false) 1 0 = one_if (get_or xs c false) is in
        omega (arith, most, one, e))
    | inr off ↦ off
  ]
  | inr past ↦ get_or_past xs c false past
]

pub pruned_at : (n : ℕ) (m p : Floor) (cells : List Bool) → Keeps n m p → AreUnroomy p n cells → count_by (λ x. x) cells ≡ 0 → IsPruned n m p
pruned_at n m p cells keeps are none = record { keeps = keeps; roomy = λ c f. are.others c f (has_get cells c ∙ none_counted cells c none) }
