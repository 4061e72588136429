-- Lists that are written item by item and read item by item.
use Rattle.std.proofs.Common.{◌≡◌, ℕ, ◌+◌, ◌<◌, ◌≤◌, List, [], ◌∷◌, ◌++◌, length, get_or, take, drop, drop-cons, add-one, map, Option, Some, None, refl, sym, ap, subst, ◌∙◌, append_assoc, append-nil, arith}
use Rattle.std.proofs.Math.ListN.{drop_of_length-le}
use Rattle.std.proofs.lemmas.List.{map-append, map_more, take_more}
use Rattle.std.specs.Option.{option_map, option_and_then}
use Rattle.std.specs.List.{AllByRecursion}
use Rattle.serde_json.specs.Data.{Data, null, boolean, number, string, array, object, depth, items_depth}
use Rattle.serde_json.specs.View.{items_of, members_view}
use Rattle.serde_json.specs.Find.{as_array}
use Rattle.std.specs.Prelude.{String}
use Rattle.serde_json.specs.declared.value.Value.{Value}
use Rattle.std.specs.declared.alloc.Global.{Global}
use Rattle.fleet_trace.specs.Told.{list_of, items_in, all_in, list_in, count_members}
use Rattle.fleet_trace.specs.inside.Plain.{IsPlain}
use Rattle.fleet_trace.specs.Text.{listed}

pub list_of-items_of : (ds : List Data) → list_of (items_of ds) ≡ ds
list_of-items_of [] = refl
list_of-items_of (d ∷ ds) = ap (λ (x : List Data). d ∷ x) (list_of-items_of ds)

items_in-as_array : (d : Data) → option_map list_of (as_array d) ≡ items_in d
items_in-as_array null = refl
items_in-as_array (boolean b) = refl
items_in-as_array (number n) = refl
items_in-as_array (string s) = refl
items_in-as_array (array ds) = refl
items_in-as_array (object ms) = refl

pub items_none : (d : Data) → as_array d ≡ None → items_in d ≡ None
items_none d e = sym (items_in-as_array d) ∙ ap (option_map list_of) e

pub items_some : (ds : List Data) (d : Data) → as_array d ≡ Some (items_of ds) → items_in d ≡ Some ds
items_some ds d e = sym (items_in-as_array d) ∙ ap (option_map list_of) e ∙ ap (λ (x : List Data). Some x) (list_of-items_of ds)

-- ---- a list by its items

module _ {X : Type 0} (see : X → Data) where
  pub two : (xs : List X) {a b : X} → 2 ≤ length xs → length xs < 3 → a ≡ get_or xs 0 a → b ≡ get_or xs 1 b → map see xs ≡ see a ∷ see b ∷ []
  two [] low high p q = absurd (omega (arith, low))
  two (a' ∷ []) low high p q = absurd (omega (arith, low))
  two (a' ∷ b' ∷ []) low high p q = rw (p, q) refl
  two (a' ∷ b' ∷ c' ∷ more) low high p q = absurd (omega (arith, high))

  pub three : (xs : List X) {a b c : X} → 3 ≤ length xs → length xs < 4 → a ≡ get_or xs 0 a → b ≡ get_or xs 1 b → c ≡ get_or xs 2 c → map see xs ≡ see a ∷ see b ∷ see c ∷ []
  three [] low high p q r = absurd (omega (arith, low))
  three (a' ∷ []) low high p q r = absurd (omega (arith, low))
  three (a' ∷ b' ∷ []) low high p q r = absurd (omega (arith, low))
  three (a' ∷ b' ∷ c' ∷ []) low high p q r = rw (p, q, r) refl
  three (a' ∷ b' ∷ c' ∷ d' ∷ more) low high p q r = absurd (omega (arith, high))

  pub four : (xs : List X) {a b c d : X} → 4 ≤ length xs → length xs < 5 → a ≡ get_or xs 0 a → b ≡ get_or xs 1 b → c ≡ get_or xs 2 c → d ≡ get_or xs 3 d
      → map see xs ≡ see a ∷ see b ∷ see c ∷ see d ∷ []
  four [] low high p q r s = absurd (omega (arith, low))
  four (a' ∷ []) low high p q r s = absurd (omega (arith, low))
  four (a' ∷ b' ∷ []) low high p q r s = absurd (omega (arith, low))
  four (a' ∷ b' ∷ c' ∷ []) low high p q r s = absurd (omega (arith, low))
  four (a' ∷ b' ∷ c' ∷ d' ∷ []) low high p q r s = rw (p, q, r, s) refl
  four (a' ∷ b' ∷ c' ∷ d' ∷ e' ∷ more) low high p q r s = absurd (omega (arith, high))

-- ---- what is written

module _ {X : Type 0} (data_of : X → Data) (Fits : X → Type 0) where
  pub list_again : (told : Data → Option X) → ((x : X) → Fits x → told (data_of x) ≡ Some x) → (xs : List X) → AllByRecursion Fits xs → list_in told (listed (map data_of xs)) ≡ Some xs
  list_again told again xs fits = rw (list_of-items_of (map data_of xs)) (by xs fits) where
    by : (xs : List X) → AllByRecursion Fits xs → all_in told (map data_of xs) ≡ Some xs
    by [] h = refl
    by (x ∷ xs) h = rw (again x h.0, by xs h.1) refl

  pub list_plain : ((x : X) → Fits x → IsPlain (data_of x)) → (xs : List X) → AllByRecursion Fits xs → IsPlain (listed (map data_of xs))
  list_plain plain [] h = tt
  list_plain plain (x ∷ xs) h = (plain x h.0, list_plain plain xs h.1)

module _ {X : Type 0} (data_of : X → Data) (n : ℕ) where
  pub list_shallow : ((x : X) → depth (data_of x) ≤ n) → (xs : List X) → items_depth (items_of (map data_of xs)) ≤ n
  list_shallow shallow [] = omega arith
  list_shallow shallow (x ∷ xs) = omega (arith, shallow x, list_shallow shallow xs)

-- ---- one more item is written

pub written_more : {X Y : Type 0} (see : Y → Data) (data_of : X → Data) (xs : List X) (i : ℕ) (x : X) (y : Y) (ys zs : List Y) → i < length xs → x ≡ get_or xs i x → see y ≡ data_of x
    → map see ys ≡ map data_of (take i xs) → zs ≡ ys ++ y ∷ [] → map see zs ≡ map data_of (take (i + 1) xs)
written_more see data_of xs i x y ys zs within is gives before more =
    ap (λ (l : List _). map see l) more ∙ map-append see ys (y ∷ []) ∙ ap (λ (l : List Data). l ++ see y ∷ []) before
    ∙ ap (λ (d : Data). map data_of (take i xs) ++ d ∷ []) (gives ∙ ap data_of is) ∙ sym (map_more data_of xs i x within)

all_push : {X : Type 0} (Fits : X → Type 0) (xs : List X) (x : X) → AllByRecursion Fits xs → Fits x → AllByRecursion Fits (xs ++ x ∷ [])
all_push Fits [] x before here = (here, tt)
all_push Fits (y ∷ xs) x before here = (before.0, all_push Fits xs x before.1 here)

pub fits_more : {X : Type 0} (Fits : X → Type 0) (xs : List X) (i : ℕ) (x : X) → i < length xs → x ≡ get_or xs i x → Fits x → AllByRecursion Fits (take i xs) → AllByRecursion Fits (take (i + 1) xs)
fits_more Fits xs i x within is here before =
    subst (λ (l : List _). AllByRecursion Fits l) (sym (take_more xs i x within)) (all_push Fits (take i xs) (get_or xs i x) before (subst Fits is here))

-- ---- what is read

module _ {Y : Type 0} (told : Data → Option Y) where
  -- what was read before, and what is still read
  abbrev pub with_front : List Y → Option (List Y) → Option (List Y)
  with_front front rest = option_map (λ ys. front ++ ys) rest

  regroup : (front : List Y) (y : Y) (rest : Option (List Y)) → with_front front (option_map (λ ys. y ∷ ys) rest) ≡ with_front (front ++ y ∷ []) rest
  regroup front y None = refl
  regroup front y (Some ys) = ap (λ (x : List Y). Some x) (sym (append_assoc front (y ∷ []) ys))

  module _ {X : Type 0} (see : X → Data) where
    at_place : (xs : List X) (i : ℕ) (x : X) → i < length xs → x ≡ get_or xs i x → all_in told (map see (drop i xs)) ≡ option_and_then (λ y. option_map (λ ys. y ∷ ys) (all_in told (map see (drop (i + 1) xs)))) (told (see x))
    at_place xs i x lt e = rw (drop-cons xs i x lt, ← e, add-one i) refl

    pub goes_on : (front : List Y) (xs : List X) (i : ℕ) (x : X) (y : Y) (total : Option (List Y)) → i < length xs → x ≡ get_or xs i x → told (see x) ≡ Some y
        → with_front front (all_in told (map see (drop i xs))) ≡ total → with_front (front ++ y ∷ []) (all_in told (map see (drop (i + 1) xs))) ≡ total
    goes_on front xs i x y total lt e h so_far =
        sym (regroup front y (all_in told (map see (drop (i + 1) xs)))) ∙ sym (ap (with_front front) (at_place xs i x lt e ∙ rw h refl)) ∙ so_far

    pub ends : (front : List Y) (xs : List X) (i : ℕ) (x : X) (total : Option (List Y)) → i < length xs → x ≡ get_or xs i x → told (see x) ≡ None
        → with_front front (all_in told (map see (drop i xs))) ≡ total → total ≡ None
    ends front xs i x total lt e h so_far =
        let none : all_in told (map see (drop i xs)) ≡ None = at_place xs i x lt e ∙ rw h refl in
        sym so_far ∙ ap (with_front front) none

    pub is_done : (front : List Y) (xs : List X) (i : ℕ) (total : Option (List Y)) → length xs ≤ i → with_front front (all_in told (map see (drop i xs))) ≡ total → total ≡ Some front
    is_done front xs i total le so_far = sym so_far ∙ rw (drop_of_length-le xs le) (ap (λ (x : List Y). Some x) (append-nil front))

-- ---- members

pub count_members-view : (ms : List (String Global × Value)) → count_members (members_view ms) ≡ length ms
count_members-view [] = refl
count_members-view (m ∷ ms) = rw (count_members-view ms) (omega arith)
