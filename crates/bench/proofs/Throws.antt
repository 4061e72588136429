-- Cells and fields that are thrown one after another.
use Rattle.std.proofs.Common.{◌≡◌, ◌≢◌, ◌⊎◌, inl, inr, ℕ, ◌<◌, ◌++◌, ◌∷◌, [], zero, suc, unwrap_or, List, length, arith, rules, sym, subst, ap, ◌∙◌, set, get_or}
use Rattle.std.proofs.Math.ListN.{get_or-append}
use Rattle.std.specs.Prelude.{slice_index, slice_get, Option, Some, None, Bool, true, false}
use Rattle.std.proofs.lemmas.List.{length_push, get_or_push, length-set, get_or-set_same, get_or-set_other}
use Rattle.std.proofs.lemmas.Option.{slice_get-get_or, slice_get_within}
use Rattle.std.proofs.lemmas.Bool.{cases_eq}
use Rattle.fleet_grid.specs.Floor.{Floor, IsFloor, IsNeighbour}
use Rattle.fleet_grid.proofs.Forms.{floor_inside}
use Rattle.fleet_grid.proofs.Walks.{joined_same}
use Rattle.bench.proofs.Courses.{joined_within}
use Rattle.std.specs.Prelude.{replicate}
use Rattle.std.proofs.lemmas.List.{length-replicate}
use Rattle.fleet_grid.specs.Step.{IsPlacement}
use Rattle.fleet_field.specs.Field.{Aim, IsField}
use Rattle.bench.specs.Fleet.{IsWithin, AreWithin, AreTaken, AreStarts, Serves}

-- what holds of each item and of one more holds of all
push_all : (P : ℕ → Type 0) (xs : List ℕ) (x : ℕ) → ((k : ℕ) → k < length xs → P (slice_index xs k)) → P x → (k : ℕ) → k < length (xs ++ x ∷ []) → P (slice_index (xs ++ x ∷ []) k)
push_all P xs x all one k small = elim (cases_eq k (length xs)) [
  | inl e ↦ subst P (sym (get_or_push xs x 0 k (sym e))) one
  | inr ne ↦ (let less : k < length xs = omega (arith, small, ne, length_push xs x) in subst P (sym (get_or-append xs (x ∷ []) 0 k less)) (all k less))
]

pub within_none : (m : Floor) (home : ℕ) → AreWithin m home []
within_none m home k small = absurd (omega (arith, small))

pub within_more : (m : Floor) (home : ℕ) (cells : List ℕ) (c : ℕ) → AreWithin m home cells → IsWithin m home c → AreWithin m home (cells ++ c ∷ [])
within_more m home cells c all one = push_all (IsWithin m home) cells c all one

pub placed_more : (m : Floor) (cells : List ℕ) (c : ℕ) → IsPlacement m cells → IsFloor m c → ((k : ℕ) → k < length cells → slice_index cells k ≢ c) → IsPlacement m (cells ++ c ∷ [])
placed_more m cells c placed floor new = record {
  on_floor = push_all (IsFloor m) cells c placed.on_floor floor;
  distinct = λ i j less small. elim (cases_eq j (length cells)) [
    | inl e ↦ (
        let inside : i < length cells = omega (arith, less, e) in
        λ same. new i inside (sym (get_or-append cells (c ∷ []) 0 i inside) ∙ same ∙ get_or_push cells c 0 j (sym e)))
    | inr ne ↦ (
        let below : j < length cells = omega (arith, small, ne, length_push cells c) in
        let inside : i < length cells = omega (arith, less, below) in
        λ same. placed.distinct i j less below (sym (get_or-append cells (c ∷ []) 0 i inside) ∙ same ∙ get_or-append cells (c ∷ []) 0 j below))
  ];
}

set_true : (taken : List Bool) (c d : ℕ) → d < length taken → slice_get taken d ≡ Some true → slice_get (set taken c true) d ≡ Some true
set_true taken c d small was = elim (cases_eq d c) [
  | inl e ↦ slice_get-get_or (set taken c true) d true (omega (arith, length-set taken c true)) ∙ ap Some (subst (λ (x : ℕ). get_or (set taken x true) d true ≡ true) e (get_or-set_same taken d true true small))
  | inr ne ↦ slice_get-get_or (set taken c true) d true (omega (arith, length-set taken c true)) ∙ ap Some (get_or-set_other taken c d true true ne) ∙ sym (slice_get-get_or taken d true small) ∙ was
]

-- a further cell may be taken
pub taken_still : (cells : List ℕ) (taken : List Bool) (c : ℕ) → AreTaken cells taken → AreTaken cells (set taken c true)
taken_still cells taken c all k small =
    let was = all k small in
    set_true taken c (slice_index cells k) (slice_get_within taken (slice_index cells k) true was) was

pub taken_more : (cells : List ℕ) (taken : List Bool) (c : ℕ) → c < length taken → AreTaken cells taken → AreTaken (cells ++ c ∷ []) (set taken c true)
taken_more cells taken c small all = push_all (λ x. slice_get (set taken c true) x ≡ Some true) cells c (taken_still cells taken c all)
    (slice_get-get_or (set taken c true) c true (omega (arith, length-set taken c true)) ∙ ap Some (get_or-set_same taken c true true small))

-- a cell that was free is none of them
pub free_is_new : (cells : List ℕ) (taken : List Bool) (c : ℕ) → AreTaken cells taken → slice_get taken c ≡ Some false → (k : ℕ) → k < length cells → slice_index cells k ≢ c
free_is_new cells taken c all free k small same = apart (sym (subst (λ (x : ℕ). slice_get taken x ≡ Some true) same (all k small)) ∙ free)
  where
    apart : Some true ≡ Some false → ⊥
    apart e = search (rules, e)

pub serves_none : (m : Floor) (home : ℕ) → Serves m home []
serves_none m home = record {
  each = λ k field is. absurd (none k field is);
  within = λ k field is. absurd (none k field is);
}
  where
    none : (k : ℕ) (field : Aim) → slice_get [] k ≡ Some field → ⊥
    none k field is = absurd (omega (arith, slice_get_within [] k field is))

push_cases : {X : Type 0} (xs : List X) (y z : X) (k : ℕ) → slice_get (xs ++ y ∷ []) k ≡ Some z → (slice_get xs k ≡ Some z) ⊎ (y ≡ z)
push_cases [] y z zero e = inr (ap (λ (o : Option _). unwrap_or o y) e)
push_cases [] y z (suc k) e = absurd (none e)
  where
    none : None ≡ Some z → ⊥
    none e = search (rules, e)
push_cases (x ∷ xs) y z zero e = inl e
push_cases (x ∷ xs) y z (suc k) e = push_cases xs y z k e

pub serves_more : (m : Floor) (home : ℕ) (fields : List Aim) (goal : ℕ) (field : Aim) → Serves m home fields → IsField m goal field → IsWithin m home goal → Serves m home (fields ++ field ∷ [])
serves_more m home fields goal field serves is within = record {
  each = λ k other at. elim (push_cases fields field other k at) [
    | inl was ↦ serves.each k other was
    | inr same ↦ subst (λ (f : Aim). IsField m f.goal f) same (subst (λ (g : ℕ). IsField m g field) (sym is.goal) is)
  ];
  within = λ k other at. elim (push_cases fields field other k at) [
    | inl was ↦ serves.within k other was
    | inr same ↦ subst (λ (f : Aim). IsWithin m home f.goal) same (subst (λ (g : ℕ). IsWithin m home g) (sym is.goal) within)
  ];
}

pub home_within : (m : Floor) (home : ℕ) → IsFloor m home → AreWithin m home (home ∷ [])
home_within m home floor zero small = joined_within m home home floor (joined_same (IsNeighbour m) home)
home_within m home floor (suc k) small = absurd (omega (arith, small))

pub starts_none : (m : Floor) (home n : ℕ) → n ≡ length m.letters → AreStarts m home (replicate n false) []
starts_none m home n size = record {
  size = length-replicate n false ∙ size;
  placed = record { on_floor = λ r small. absurd (omega (arith, small)); distinct = λ i j less small. absurd (omega (arith, small)) };
  within = λ k small. absurd (omega (arith, small));
  taken_all = λ k small. absurd (omega (arith, small));
}

pub starts_still : (m : Floor) (home : ℕ) (taken : List Bool) (starts : List ℕ) (c : ℕ) → AreStarts m home taken starts → AreStarts m home (set taken c true) starts
starts_still m home taken starts c all = record {
  size = length-set taken c true ∙ all.size;
  placed = all.placed;
  within = all.within;
  taken_all = taken_still starts taken c all.taken_all;
}

pub starts_more : (m : Floor) (home : ℕ) (taken : List Bool) (starts : List ℕ) (c : ℕ) → AreStarts m home taken starts → IsWithin m home c → slice_get taken c ≡ Some false → AreStarts m home (set taken c true) (starts ++ c ∷ [])
starts_more m home taken starts c all one free = record {
  size = length-set taken c true ∙ all.size;
  placed = placed_more m starts c all.placed one.on_floor (free_is_new starts taken c all.taken_all free);
  within = within_more m home starts c all.within one;
  taken_all = taken_more starts taken c (slice_get_within taken c false free) all.taken_all;
}

pub start_inside : (m : Floor) (home : ℕ) (taken : List Bool) (starts : List ℕ) (c : ℕ) → AreStarts m home taken starts → IsWithin m home c → c < length taken
start_inside m home taken starts c all one = omega (arith, floor_inside m c one.on_floor, all.size)
