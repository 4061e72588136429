-- Lists that are alike at each place, as far as a loop has seen them.
use Rattle.std.proofs.Common.{◌≡◌, ℕ, suc, ◌+◌, ◌<◌, ◌≤◌, List, [], ◌∷◌, ◌++◌, length, get_or, map, take, Some, None, Option, refl, ap, sym, ◌∙◌, subst, arith, inl, inr, false, true, Bool}
use Rattle.std.specs.Prelude.{All, slice_get, slice_index_or, is_some}
use Rattle.std.specs.Option.{option_map}
use Rattle.std.proofs.lemmas.Option.{slice_get-map, slice_get-get_or, get_or_from_slice_get}
use Rattle.std.proofs.lemmas.List.{length-map, map_more, take_all, get_or_past}
use Rattle.std.proofs.lemmas.List.Elements.{All-push}
use Rattle.std.proofs.lemmas.Bool.{cases_eq, cases_lt}
use Rattle.fleet_hooks.specs.declared.law.StampLaw.{StampLaw}
use Rattle.fleet_history.specs.History.{History, robots}
use Rattle.fleet_history.specs.Legal.{is_done, farewell_law, no_law}
use Rattle.fleet_core.specs.Hooks.{AreFarewells, AreArrivals, IsLeft}

-- a word of the item at a place
pub word_there : {X Z : Type 0} (f : X → Z) (xs : List X) (r : ℕ) (x : X) (z : Z) → r < length xs → z ≡ f (get_or xs r x) → slice_get (map f xs) r ≡ Some z
word_there f xs r x z within is = slice_get-map f xs r ∙ ap (option_map f) (slice_get-get_or xs r x within) ∙ ap Some (sym is)

-- a word of each item, as the list of it grows
pub word_more : {X Z : Type 0} (f : X → Z) (xs : List X) (i : ℕ) (x : X) (z : Z) (before behind : List Z) → i < length xs → x ≡ get_or xs i x → z ≡ f x →
    before ≡ map f (take i xs) → behind ≡ before ++ z ∷ [] → behind ≡ map f (take (i + 1) xs)
word_more f xs i x z before behind within is gives so more =
    more ∙ ap (λ (l : List _). l ++ z ∷ []) so ∙ ap (λ (y : _). map f (take i xs) ++ y ∷ []) (gives ∙ ap f is) ∙ sym (map_more f xs i x within)

pub words_all : {X Z : Type 0} (f : X → Z) (xs : List X) (i : ℕ) (zs : List Z) → length xs ≤ i → zs ≡ map f (take i xs) → zs ≡ map f xs
words_all f xs i zs past so = so ∙ ap (map f) (take_all i xs past)

pub all_more : {Z : Type 0} (P : Z → Type 0) (before behind : List Z) (z : Z) → All P before → P z → behind ≡ before ++ z ∷ [] → All P behind
all_more P before behind z all one more = subst (All P) (sym more) (All-push P before z all one)

pub alike-more : {Z : Type 0} (ys zs : List Z) (r : ℕ) (y z : Z) → slice_get ys r ≡ Some y → slice_get zs r ≡ Some z → y ≡ z →
    ((j : ℕ) → j < r → slice_get ys j ≡ slice_get zs j) → (j : ℕ) → j < r + 1 → slice_get ys j ≡ slice_get zs j
alike-more ys zs r y z at there same so j l = elim (cases_eq j r) [
  | inl e ↦ subst (λ k. slice_get ys k ≡ slice_get zs k) (sym e) (at ∙ ap Some same ∙ sym there)
  | inr ne ↦ so j (omega (arith, ne))
]

pub alike-all : {Z : Type 0} (ys zs : List Z) → length ys ≡ length zs → ((j : ℕ) → j < length ys → slice_get ys j ≡ slice_get zs j) → ys ≡ zs
alike-all [] [] n so = refl
alike-all [] (z ∷ zs) n so = absurd (omega arith)
alike-all (y ∷ ys) [] n so = absurd (omega arith)
alike-all (y ∷ ys) (z ∷ zs) n so =
    let first : Some y ≡ Some z = so 0 (omega arith) in
    let same : y ≡ z = cc in
    rw same (ap (λ x. z ∷ x) (alike-all ys zs (omega arith) (λ j l. so (suc j) (omega arith))))

pub alike-map : {X Z : Type 0} (f : X → Z) (xs : List X) (zs : List Z) (n : ℕ) → length xs ≡ length zs → n ≡ length xs → ((j : ℕ) → j < n → slice_get (map f xs) j ≡ slice_get zs j) → map f xs ≡ zs
alike-map f xs zs n same end so =
    let count : length (map f xs) ≡ length xs = simp length-map refl in
    alike-all (map f xs) zs (count ∙ same) (λ j l. so j (omega (arith, count)))

pub alike-maps : {X Y Z : Type 0} (f : X → Z) (g : Y → Z) (xs : List X) (ys : List Y) (n : ℕ) → length xs ≡ length ys → n ≡ length xs → ((j : ℕ) → j < n → slice_get (map f xs) j ≡ slice_get (map g ys) j) → map f xs ≡ map g ys
alike-maps f g xs ys n same end so =
    let count : length (map g ys) ≡ length ys = simp length-map refl in
    alike-map f xs (map g ys) n (same ∙ sym count) end so

pub arrivals-alike : {A : Type 0} (h : History A) (laws : List StampLaw) → laws ≡ map (λ x. x.arrival_law) h.opening.robots → AreArrivals h laws
arrivals-alike h laws e = record {
  count = ap length e ∙ simp length-map refl;
  each = λ r l. ap (λ x. slice_index_or x r no_law) e;
}

-- what a loop has seen of the farewells that are left
pub record SeenLeft {A : Type 0} (h : History A) (spare : List (Option StampLaw)) (n : ℕ) : Type 0 where
  pub each : (r : ℕ) (law : StampLaw) → r < n → slice_index_or spare r None ≡ Some law → law ≡ farewell_law h r
  pub unspent : (r : ℕ) → r < n → is_done h r ≡ false → is_some (slice_index_or spare r None) ≡ true

module _ {A : Type 0} (h : History A) (spare : List (Option StampLaw)) where
  left_law : (found : Option StampLaw) (wanted law : StampLaw) (done : Bool) → IsLeft found wanted done → found ≡ Some law → law ≡ wanted
  left_law (Some x) wanted law done left e = let same : x ≡ law = cc in sym same ∙ left
  left_law None wanted law done left e = cc

  left_done : (found : Option StampLaw) (wanted : StampLaw) (done : Bool) → IsLeft found wanted done → done ≡ false → is_some found ≡ true
  left_done (Some x) wanted done left e = refl
  left_done None wanted done left e = let bad : true ≡ false = sym left ∙ e in cc

  pub left-more : (n : ℕ) (found : Option StampLaw) (wanted : StampLaw) → slice_get spare n ≡ Some found → slice_get (map (λ x. x.farewell_law) h.opening.robots) n ≡ Some wanted →
      IsLeft found wanted (is_done h n) → SeenLeft h spare n → SeenLeft h spare (n + 1)
  left-more n found wanted at there left s =
      let is : slice_index_or spare n None ≡ found = get_or_from_slice_get spare n found None at in
      let law : farewell_law h n ≡ wanted = get_or_from_slice_get (map (λ x. x.farewell_law) h.opening.robots) n wanted no_law there in
      record {
        each = λ r x l e. elim (cases_eq r n) [
          | inl same ↦ subst (λ k. x ≡ farewell_law h k) (sym same)
              (left_law found wanted x (is_done h n) left (sym is ∙ ap (λ k. slice_index_or spare k None) (sym same) ∙ e) ∙ sym law)
          | inr ne ↦ s.each r x (omega (arith, ne)) e
        ];
        unspent = λ r l e. elim (cases_eq r n) [
          | inl same ↦ ap (λ k. is_some (slice_index_or spare k None)) same ∙ ap is_some is
              ∙ left_done found wanted (is_done h n) left (ap (is_done h) (sym same) ∙ e)
          | inr ne ↦ s.unspent r (omega (arith, ne)) e
        ];
      }

  pub left-all : (n : ℕ) → n ≡ robots h → length spare ≡ n → SeenLeft h spare n → AreFarewells h spare
  left-all n end count s = record {
    count = count ∙ end;
    each = λ r x e. elim (cases_lt r n) [
      | inl l ↦ s.each r x l e
      | inr past ↦ let none : slice_index_or spare r None ≡ None = get_or_past spare r None (omega (arith, count, past)) in let bad : None ≡ Some x = sym none ∙ e in cc
    ];
    unspent = λ r l e. s.unspent r (omega (arith, end)) e;
  }
