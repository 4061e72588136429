-- The robot in a room that is nearest to the mouth, found one robot after the other; and the ranks of all.
use Rattle.std.proofs.Common.{◌≡◌, ℕ, ◌+◌, ◌<◌, ◌≤◌, ◌⊎◌, inl, inr, List, Option, Some, None, length, slice_index, refl, sym, subst, ap, arith}
use Rattle.std.specs.Prelude.{MatchOption, slice_set}
use Rattle.std.proofs.lemmas.Bool.{cases_eq, cases_lt}
use Rattle.std.proofs.lemmas.List.{length-set, get_or-set_same, get_or-set_other, get_or_past}
use Rattle.fleet_pibt.specs.Eldest.{IsEldest}
use Rattle.fleet_pibt.specs.Order.{wait_of, ComesBefore}
use Rattle.fleet_planner.specs.Lending.{IsRank, AreRanks, IsInside, IsNearestOf, IsNearestInside, IsLentTo, goal_at}
use Rattle.fleet_planner.specs.declared.lending.Lending.{Lending}

module _ (door away cells : List ℕ) (room but n : ℕ) where
  abbrev Inside : ℕ → Type 0
  Inside r = IsInside door cells room but r

  abbrev far : ℕ → ℕ
  far r = slice_index away (slice_index cells r)

  -- one robot more, which is not there
  pub lenders_skip : (Inside n → ⊥) → (o : Option ℕ) → MatchOption o ((r : ℕ) → r < n → Inside r → ⊥) (λ x. IsNearestOf door away cells room but n x) → MatchOption o ((r : ℕ) → r < n + 1 → Inside r → ⊥) (λ x. IsNearestOf door away cells room but (n + 1) x)
  lenders_skip off None none = λ r l inside. elim (cases_lt r n) [
    | inl below ↦ none r below inside
    | inr past ↦ (let here : r ≡ n = omega (arith, l, past) in off (subst Inside here inside))
  ]
  lenders_skip off (Some x) it = record {
    is = it.is;
    below = (let l = it.below in omega (arith, l));
    nearest = λ r l inside. elim (cases_lt r n) [
      | inl below ↦ it.nearest r below inside
      | inr past ↦ (let here : r ≡ n = omega (arith, l, past) in absurd (off (subst Inside here inside)))
    ];
  }

  here_last : (r : ℕ) → r < n + 1 → n ≤ r → (far n < far r) ⊎ ((far n ≡ far r) × (n ≤ r))
  here_last r l past = let here : n ≡ r = omega (arith, l, past) in inr (ap far here, omega (arith, here))

  -- it is the first that is there
  pub lenders_only : Inside n → ((r : ℕ) → r < n → Inside r → ⊥) → IsNearestOf door away cells room but (n + 1) n
  lenders_only here none = record {
    is = here;
    below = omega arith;
    nearest = λ r l inside. elim (cases_lt r n) [ inl below ↦ absurd (none r below inside) | inr past ↦ here_last r l past ];
  }

  -- it is nearer than the one found before
  pub lenders_take : (x : ℕ) → Inside n → far n < far x → IsNearestOf door away cells room but n x → IsNearestOf door away cells room but (n + 1) n
  lenders_take x here less it = record {
    is = here;
    below = omega arith;
    nearest = λ r l inside. elim (cases_lt r n) [
      | inl below ↦ elim (it.nearest r below inside) [ inl p ↦ inl (omega (arith, less, p)) | inr p ↦ inl (let e = p.0 in omega (arith, less, e)) ]
      | inr past ↦ here_last r l past
    ];
  }

  -- it is not
  pub lenders_keep : (x : ℕ) → (far n < far x → ⊥) → IsNearestOf door away cells room but n x → IsNearestOf door away cells room but (n + 1) x
  lenders_keep x more it = record {
    is = it.is;
    below = (let l = it.below in omega (arith, l));
    nearest = λ r l inside. elim (cases_lt r n) [
      | inl below ↦ it.nearest r below inside
      | inr past ↦ (
          let here : n ≡ r = omega (arith, l, past) in
          let same : far n ≡ far r = ap far here in
          let before = it.below in
          elim (cases_lt (far x) (far r)) [
            | inl less ↦ inl less
            | inr not_less ↦ inr (omega (arith, more, same, not_less), omega (arith, before, here))
          ])
    ];
  }

  -- of all robots
  pub lenders_all : n ≡ length cells → (o : Option ℕ) → MatchOption o ((r : ℕ) → r < n → Inside r → ⊥) (λ x. IsNearestOf door away cells room but n x) → MatchOption o ((r : ℕ) → Inside r → ⊥) (λ x. IsNearestInside door away cells room but x)
  lenders_all all None none = λ r inside. none r (let l = inside.known in omega (arith, l, all)) inside
  lenders_all all (Some x) it = subst (λ (k : ℕ). IsNearestOf door away cells room but k x) all it

-- each rank is below the greatest number
rank_small : (core capacity : List ℕ) (n : ℕ) (goal wait rank : Option ℕ) → IsRank core capacity n goal wait rank → ((w : ℕ) → wait ≡ Some w → w + 1 < 9223372036854775808) → (a : ℕ) → rank ≡ Some a → a < 18446744073709551615
rank_small core capacity n goal None rank is early a e = absurd (cc (is.idle refl, e))
rank_small core capacity n None (Some w) rank is early a e =
    let same : w ≡ a = cc (is.aimless w refl refl, e) in
    let l = early w refl in omega (arith, same, l)
rank_small core capacity n (Some g) (Some w) rank is early a e = elim (cases_lt (slice_index capacity (slice_index core g)) n) [
  | inl less ↦ (
      let same : w ≡ a = cc (is.unserved g w refl refl (λ more. omega (arith, less, more)), e) in
      let l = early w refl in omega (arith, same, l))
  | inr more ↦ (
      let same : w + 9223372036854775808 ≡ a = cc (is.served g w refl refl more, e) in
      let l = early w refl in omega (arith, same, l))
]

pub ranks_small : (core capacity : List ℕ) (goals waits ranks : List (Option ℕ)) → AreRanks core capacity goals waits ranks → ((r w : ℕ) → wait_of waits r ≡ Some w → w + 1 < 9223372036854775808) → (r a : ℕ) → wait_of ranks r ≡ Some a → a < 18446744073709551615
ranks_small core capacity goals waits ranks are early r a e = elim (cases_lt r (length waits)) [
  | inl below ↦ rank_small core capacity (length waits) (goal_at goals r) (wait_of waits r) (wait_of ranks r) (are.each r below) (early r) a e
  | inr past ↦ (let none : wait_of ranks r ≡ None = get_or_past ranks r None (let same = are.same_length in omega (arith, past, same)) in absurd (cc (none, e)))
]

pub lender_known : (core door mouth away cells : List ℕ) (e g : ℕ) (lending : Lending) → IsLentTo core door mouth away cells e g lending → (x : ℕ) → lending.lender ≡ Some x → x < length cells
lender_known core door mouth away cells e g lending it x is = elim (cases_eq (slice_index door g) (slice_index core g)) [
  | inl same ↦ absurd (cc ((it.outside same).0, is))
  | inr ne ↦ (
      let found : IsNearestInside door away cells (slice_index door g) e x =
      subst (λ (o : Option ℕ). MatchOption o ((r : ℕ) → IsInside door cells (slice_index door g) e r → ⊥) (λ y. IsNearestInside door away cells (slice_index door g) e y)) is (it.lender ne) in
      found.is.known)
]

-- who has the greatest rank comes first
pub lender_first : (own : List (Option ℕ)) (x : ℕ) → x < length own → ((r a : ℕ) → wait_of own r ≡ Some a → a < 18446744073709551615) → IsEldest (slice_set own x (Some 18446744073709551615)) x
lender_first own x l small = record {
  known = (let same = length-set own x (Some 18446744073709551615) in omega (arith, l, same));
  age = 18446744073709551615;
  waits = get_or-set_same own x (Some 18446744073709551615) None l;
  first = λ r _ ne. subst (λ (o : Option ℕ). ComesBefore (Some 18446744073709551615) o x r) (sym (get_or-set_other own x r (Some 18446744073709551615) None ne)) (go r (wait_of own r) refl);
}
  where
    go : (r : ℕ) (o : Option ℕ) → wait_of own r ≡ o → ComesBefore (Some 18446744073709551615) o x r
    go r None e = tt
    go r (Some a) e = inl (small r a e)
