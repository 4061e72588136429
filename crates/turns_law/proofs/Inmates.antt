-- Who is in a room: nobody enters while its door is shut, and the nearest to the mouth.
use Rattle.std.proofs.Common.{◌≡◌, ◌≢◌, ℕ, zero, suc, ◌+◌, ◌<◌, ◌≤◌, ◌⊎◌, ◌↔◌, inl, inr, Option, Some, None, Bool, true, false, List, [], ◌∷◌, length, slice_index, sym, subst, refl, ap, ◌∙◌, arith, ◌==◌, ◌&&◌, not}
use Rattle.std.specs.Prelude.{MatchOption, count_by}
use Rattle.std.specs.List.{range_with_len}
use Rattle.std.proofs.lemmas.Bool.{cases_eq, cases_lt, cases_Bool, and_parts, and_from, eqb-true, eq-eqb, ne_eqb}
use Rattle.fleet_grid.specs.Floor.{Floor, IsFloor, IsNeighbour}
use Rattle.fleet_grid.specs.Walk.{IsBridge, IsOnSide}
use Rattle.fleet_pibt.specs.Door.{IsOpen, IsPassage, KeepToPassages}
use Rattle.fleet_pibt.specs.declared.door.Door.{Door}
use Rattle.fleet_planner.specs.Lending.{IsInside, IsNearestOf, IsNearestInside}
use Rattle.fleet_planner.proofs.Lenders.{lenders_skip, lenders_only, lenders_take, lenders_keep}
use Rattle.fleet_bound.proofs.WaitCounts.{below-mono, below-strict, below-some_fails}
use Rattle.turns_law.specs.ToGo.{is_inside, inmates}
use Rattle.turns_law.proofs.Crossing.{turned, beside_in}

module _ (door cells : List ℕ) (room but : ℕ) where
  pub inside_true : (r : ℕ) → r < length cells → is_inside door cells room but r ≡ true → IsInside door cells room but r
  inside_true r l e =
      let both = and_parts (not (r == but)) (slice_index door (slice_index cells r) == room) e in
      record { known = l; other = λ same. not_same (r == but) both.0 (eq-eqb r but same); inside = eqb-true (slice_index door (slice_index cells r)) room both.1 }
    where
      not_same : (b : Bool) → not b ≡ true → b ≡ true → ⊥
      not_same true p q = cc
      not_same false p q = cc

  pub true_inside : (r : ℕ) → IsInside door cells room but r → is_inside door cells room but r ≡ true
  true_inside r it = and_from (not (r == but)) (slice_index door (slice_index cells r) == room) (ap not (ne_eqb r but it.other)) (eq-eqb (slice_index door (slice_index cells r)) room it.inside)

  pub inside_or_not : (r : ℕ) → r < length cells → IsInside door cells room but r ⊎ (IsInside door cells room but r → ⊥)
  inside_or_not r l = elim (cases_Bool (is_inside door cells room but r)) [
    | inl e ↦ inl (inside_true r l e)
    | inr e ↦ inr (λ it. let f = true_inside r it in cc)
  ]

  -- of several robots there is a nearest
  module _ (away : List ℕ) where
    Found : ℕ → Type 0
    Found n = ((r : ℕ) → r < n → IsInside door cells room but r → ⊥) ⊎ ((x : ℕ) × IsNearestOf door away cells room but n x)

    abbrev far : ℕ → ℕ
    far r = slice_index away (slice_index cells r)

    find : (n : ℕ) → n ≤ length cells → Found n
    unfolding Found
    find zero l = inl (λ r less it. absurd (omega (arith, less)))
    find (suc n) l = elim (find n (omega (arith, l))) [
      | inl none ↦ elim (inside_or_not n (omega (arith, l))) [
        | inl here ↦ inr (n, subst (λ (k : ℕ). IsNearestOf door away cells room but k n) one (lenders_only door away cells room but n here none))
        | inr off ↦ inl (λ r less it. (lenders_skip door away cells room but n off None none) r (omega (arith, less)) it)
      ]
      | inr some ↦ elim (inside_or_not n (omega (arith, l))) [
        | inl here ↦ elim (cases_lt (far n) (far some.0)) [
          | inl less ↦ inr (n, subst (λ (k : ℕ). IsNearestOf door away cells room but k n) one (lenders_take door away cells room but n some.0 here less some.1))
          | inr more ↦ inr (some.0, subst (λ (k : ℕ). IsNearestOf door away cells room but k some.0) one (lenders_keep door away cells room but n some.0 (λ less. let c : far some.0 ≤ far n = more in omega (arith, less, c)) some.1))
        ]
        | inr off ↦ inr (some.0, subst (λ (k : ℕ). IsNearestOf door away cells room but k some.0) one (lenders_skip door away cells room but n off (Some some.0) some.1))
      ]
    ]
      where
        one : {n : ℕ} → n + 1 ≡ suc n
        one {n} = omega arith

    pub nearest_or_none : ((r : ℕ) → IsInside door cells room but r → ⊥) ⊎ ((x : ℕ) × IsNearestInside door away cells room but x)
    unfolding Found
    nearest_or_none = elim (find (length cells) (omega arith)) [ inl none ↦ inl (λ r it. none r it.known it) | inr some ↦ inr some ]

    pub nearest_once : (x y : ℕ) → IsNearestInside door away cells room but x → IsNearestInside door away cells room but y → x ≡ y
    nearest_once x y p q = elim (p.nearest y q.below q.is) [
      | inl a ↦ elim (q.nearest x p.below p.is) [ inl b ↦ omega (arith, a, b) | inr b ↦ (let e = b.0 in omega (arith, a, e)) ]
      | inr a ↦ elim (q.nearest x p.below p.is) [ inl b ↦ (let e = a.0 in omega (arith, b, e)) | inr b ↦ omega (arith, a.1, b.1) ]
    ]

-- nobody comes into the room, where each robot that was outside stays outside
module _ (door from to : List ℕ) (room but : ℕ) (many : length to ≡ length from)
    (nobody : (r : ℕ) → r < length from → slice_index door (slice_index to r) ≡ room → r ≢ but → slice_index door (slice_index from r) ≡ room) where
  was_inside : (r : ℕ) → IsInside door to room but r → IsInside door from room but r
  was_inside r it = let l : r < length from = (let k = it.known in omega (arith, k, many)) in record { known = l; other = it.other; inside = nobody r l it.inside it.other }

  over : (p : ℕ → Bool) → count_by p (range_with_len 0 (length to)) ≡ count_by p (range_with_len 0 (length from))
  over p = ap (λ (n : ℕ). count_by p (range_with_len 0 n)) many

  pub still_none : ((r : ℕ) → IsInside door from room but r → ⊥) → (r : ℕ) → IsInside door to room but r → ⊥
  still_none none r it = none r (was_inside r it)

  carries : (k : ℕ) → k < length from → is_inside door to room but k ≡ true → is_inside door from room but k ≡ true
  carries k l e = true_inside door from room but k (was_inside k (inside_true door to room but k (omega (arith, l, many)) e))

  pub no_more : inmates door to room but ≤ inmates door from room but
  no_more = (let c = below-mono (is_inside door to room but) (is_inside door from room but) (length from) carries in omega (arith, c, over (is_inside door to room but)))

  -- fewer, if one of them left
  pub fewer : (x : ℕ) → IsInside door from room but x → (IsInside door to room but x → ⊥) → inmates door to room but < inmates door from room but
  fewer x it gone =
      let c = below-strict (is_inside door to room but) (is_inside door from room but) (length from) x carries it.known
      (elim (cases_Bool (is_inside door to room but x)) [
        | inl e ↦ absurd (gone (inside_true door to room but x (let k = it.known in omega (arith, k, many)) e))
        | inr e ↦ e
      ])
      (true_inside door from room but x it) in
      omega (arith, c, over (is_inside door to room but))

-- one is counted
pub some_inmate : (door cells : List ℕ) (room but x : ℕ) → IsInside door cells room but x → 0 < inmates door cells room but
some_inmate door cells room but x it =
    let c = below-strict (λ k. false) (is_inside door cells room but) (length cells) x (λ k _ e. absurd (no e)) it.known refl (true_inside door cells room but x it) in
    omega (arith, c)
  where
    no : false ≡ true → ⊥
    no e = cc

-- who is not counted is not one of them
pub fewer_than_all : (door cells : List ℕ) (room but : ℕ) → but < length cells → inmates door cells room but < length cells
fewer_than_all door cells room but l = below-some_fails (is_inside door cells room but) (length cells) but l
    (elim (cases_Bool (is_inside door cells room but but)) [ inl e ↦ absurd ((inside_true door cells room but but l e).other refl) | inr e ↦ e ])

-- through a shut door nobody goes
pub shut_out : (m : Floor) (mo d : ℕ) → IsBridge (IsNeighbour m) mo d → (from to : List ℕ) → KeepToPassages m (Some (record { from = mo; to = d })) from to →
    (r : ℕ) → r < length from → IsOnSide (IsNeighbour m) mo d (slice_index to r) → IsOnSide (IsNeighbour m) mo d (slice_index from r)
shut_out m mo d bridge from to keeps r l side = elim (keeps r l) [
  | inl same ↦ subst (λ (x : ℕ). IsOnSide (IsNeighbour m) mo d x) same side
  | inr p ↦ elim (beside_in m mo d bridge (slice_index to r) (slice_index from r) side (turned m (slice_index from r) (slice_index to r) p.0)) [
    | inl at ↦ absurd (p.1 (sym at.1) (sym at.0))
    | inr in_from ↦ in_from
  ]
]
