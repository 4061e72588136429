-- A queue in which each robot is once.
use Rattle.std.proofs.Common.{◌≡◌, ◌≢◌, ℕ, ◌<◌, ◌⊎◌, inl, inr, Bool, true, false, ◌||◌, eqb, List, [], ◌∷◌, ◌++◌, length, get_or, set, replicate, drop, Some, slice_get, refl, sym, ◌∙◌, ap, subst, arith, length-append, length-set, get_or-set_same, get_or-set_other, Result, Ok, Err, IsOk, OnOk}
use Rattle.std.proofs.lemmas.List.{length-replicate, get_or-replicate}
use Rattle.std.specs.List.{list_any, IsDistinct, AllByRecursion}
use Rattle.std.proofs.lemmas.Bool.{cases_eq, cases_Bool, ne_eqb, eqb-false}
use Rattle.std.proofs.lemmas.Bool.Decides.{eqb_tells}
use Rattle.std.proofs.lemmas.Cmp.{nat_eq_equiv}
use Rattle.std.proofs.lemmas.Map.Keys.{IsDistinct-push, IsDistinct-head, IsDistinct-tail}
use Rattle.std.proofs.lemmas.Map.Steps.{length-le_from_distinct_below}
use borrow.Author.Tests.{eqb-true}
use Rattle.fleet_execution.specs.Queue.{IsQueue}
use Rattle.fleet_execution.proofs.Chains.{or_parts, or_right, any_push, empty_distinct}

pub queue_new : (n : ℕ) → IsQueue [] n (replicate n false)
queue_new n = record {
  distinct = empty_distinct;
  below = λ q none. cc;
  marked = λ q inside. get_or-replicate n q false false (omega (arith, inside, length-replicate n false));
  room = sym (length-replicate n false);
}

same_eqb : (x y : ℕ) → x ≡ y → eqb x y ≡ true
same_eqb x y same = elim (eqb_tells x y) [ inl it_is ↦ it_is.0 | inr it_is_not ↦ absurd (it_is_not.1 same) ]

is_head : (x : ℕ) (xs : List ℕ) → list_any (eqb x) (x ∷ xs) ≡ true
is_head x xs = rw (same_eqb x x refl) refl

pub push_keeps : (q y : ℕ) (xs : List ℕ) → list_any (eqb q) xs ≡ true → list_any (eqb q) (xs ++ y ∷ []) ≡ true
push_keeps q y [] e = cc
push_keeps q y (x ∷ xs) e = elim (or_parts (eqb q x) (list_any (eqb q) xs) e) [
  | inl here ↦ rw here refl
  | inr there ↦ or_right (eqb q x) (list_any (eqb q) (xs ++ y ∷ [])) (push_keeps q y xs there)
]

pub push_has : (y : ℕ) (xs : List ℕ) → list_any (eqb y) (xs ++ y ∷ []) ≡ true
push_has y [] = is_head y []
push_has y (x ∷ xs) = or_right (eqb y x) (list_any (eqb y) (xs ++ y ∷ [])) (push_has y xs)

pub first_inside : (items : List ℕ) (capacity : ℕ) (waits : List Bool) (r : ℕ) → IsQueue items capacity waits → slice_get items 0 ≡ Some r → r < length waits
first_inside [] capacity waits r queue is = cc
first_inside (x ∷ xs) capacity waits r queue is =
    let same : x ≡ r = cc in
    subst (λ (y : ℕ). y < length waits) same (queue.below x (is_head x xs))

two : true ≡ false → ⊥
two e = cc

module _ (items : List ℕ) (capacity : ℕ) (waits : List Bool) (r : ℕ) (queue : IsQueue items capacity waits) (inside : r < length waits) (new : get_or waits r false ≡ false) where
  absent : list_any (eqb r) items ≡ false
  absent = sym (queue.marked r inside) ∙ new

  distinct_push : IsDistinct eqb (items ++ r ∷ [])
  distinct_push = IsDistinct-push nat_eq_equiv items r queue.distinct absent

  below_push : (q : ℕ) → list_any (eqb q) (items ++ r ∷ []) ≡ true → q < length waits
  below_push q is = elim (any_push q r items is) [ inl old ↦ queue.below q old | inr same ↦ subst (λ (y : ℕ). y < length waits) (sym same) inside ]

  pub has_room : length items < capacity
  has_room = omega (arith, length-le_from_distinct_below (items ++ r ∷ []) (length waits) distinct_push below_push, length-append items (r ∷ []), queue.room)

  pub queue_push : IsQueue (items ++ r ∷ []) capacity (set waits r true)
  queue_push = record {
    distinct = distinct_push;
    below = λ q is. omega (arith, below_push q is, length-set waits r true);
    marked = λ q q_in. elim (cases_eq q r) [
      | inl same ↦ (
          let here : get_or (set waits r true) r false ≡ true = get_or-set_same waits r true false inside in
          let there : get_or (set waits r true) q false ≡ true = subst (λ (y : ℕ). get_or (set waits r true) y false ≡ true) (sym same) here in
          let has : list_any (eqb q) (items ++ r ∷ []) ≡ true = subst (λ (y : ℕ). list_any (eqb y) (items ++ r ∷ []) ≡ true) (sym same) (push_has r items) in
          there ∙ sym has)
      | inr other ↦ get_or-set_other waits r q true false other ∙ (queue.marked q (omega (arith, q_in, length-set waits r true)) ∙ same_any q other)
    ];
    room = queue.room ∙ sym (length-set waits r true);
  }
    where
      same_any : (q : ℕ) → q ≢ r → list_any (eqb q) items ≡ list_any (eqb q) (items ++ r ∷ [])
      same_any q other = elim (cases_Bool (list_any (eqb q) items)) [
        | inl is ↦ is ∙ sym (push_keeps q r items is)
        | inr is_not ↦ elim (cases_Bool (list_any (eqb q) (items ++ r ∷ []))) [
          | inr neither ↦ is_not ∙ sym neither
          | inl now ↦ elim (any_push q r items now) [ inl old ↦ absurd (two (sym old ∙ is_not)) | inr same ↦ absurd (other same) ]
        ]
      ]

in_tail : (x q : ℕ) (xs : List ℕ) → AllByRecursion (λ y. eqb x y ≡ false) xs → list_any (eqb q) xs ≡ true → x ≡ q → ⊥
in_tail x q [] all is same = cc
in_tail x q (y ∷ ys) all is same = elim (or_parts (eqb q y) (list_any (eqb q) ys) is) [
  | inl here ↦ eqb-false x y all.0 (same ∙ eqb-true q y here)
  | inr there ↦ in_tail x q ys all.1 there same
]

pub queue_drop : (x : ℕ) (xs : List ℕ) (capacity : ℕ) (waits : List Bool) → IsQueue (x ∷ xs) capacity waits → IsQueue xs capacity (set waits x false)
queue_drop x xs capacity waits queue =
    let x_in : x < length waits = queue.below x (is_head x xs) in
    record {
      distinct = IsDistinct-tail eqb x xs queue.distinct;
      below = λ q is. omega (arith, queue.below q (or_right (eqb q x) (list_any (eqb q) xs) is), length-set waits x false);
      marked = λ q q_in. elim (cases_eq q x) [
        | inl same ↦ (
            let here : get_or (set waits x false) x false ≡ false = get_or-set_same waits x false false x_in in
            let there : get_or (set waits x false) q false ≡ false = subst (λ (y : ℕ). get_or (set waits x false) y false ≡ false) (sym same) here in
            elim (cases_Bool (list_any (eqb q) xs)) [
              | inr none ↦ there ∙ sym none
              | inl some ↦ absurd (in_tail x q xs (IsDistinct-head eqb x xs queue.distinct) some (sym same))
            ])
        | inr other ↦ (
            let off : eqb q x ≡ false = ne_eqb q x other in
            let was : get_or waits q false ≡ list_any (eqb q) xs = queue.marked q (omega (arith, q_in, length-set waits x false)) ∙ ap (λ (b : Bool). b || list_any (eqb q) xs) off in
            get_or-set_other waits x q false false other ∙ was)
      ];
      room = queue.room ∙ sym (length-set waits x false);
    }

-- one that was in the queue is the first, or is still in it
pub first_or_rest : (items : List ℕ) (r q : ℕ) → slice_get items 0 ≡ Some r → list_any (eqb q) items ≡ true → (q ≡ r) ⊎ (list_any (eqb q) (drop 1 items) ≡ true)
first_or_rest [] r q is has = cc
first_or_rest (x ∷ xs) r q is has =
    let same : x ≡ r = cc in
    elim (or_parts (eqb q x) (list_any (eqb q) xs) has) [ inl here ↦ inl (eqb-true q x here ∙ same) | inr there ↦ inr there ]

pub queue_pop : (items : List ℕ) (capacity : ℕ) (waits : List Bool) (r : ℕ) → IsQueue items capacity waits → slice_get items 0 ≡ Some r → IsQueue (drop 1 items) capacity (set waits r false)
queue_pop [] capacity waits r queue is = cc
queue_pop (x ∷ xs) capacity waits r queue is =
    let same : x ≡ r = cc in
    subst (λ (y : ℕ). IsQueue xs capacity (set waits y false)) same (queue_drop x xs capacity waits queue)

-- what an `Ok` says, where the result can't be an `Err`
pub told_ok : {E : Type 0} (result : Result (Unit {0}) E) (P Q : Type 0) → (Q → IsOk result) → Q → OnOk result P → P
told_ok (Ok u) P Q is q p = p
told_ok (Err e) P Q is q p = cc (is q)
