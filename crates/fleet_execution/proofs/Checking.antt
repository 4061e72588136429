-- Which cells are a further step.
use Rattle.std.proofs.Common.{◌≡◌, ◌≢◌, ℕ, ◌+◌, ◌<◌, inl, inr, List, length, get_or, set, sym, ◌∙◌, ap, arith, length-set, get_or-set_same, get_or-set_other}
use Rattle.std.proofs.lemmas.Bool.{cases_eq, cases_lt}
use Rattle.fleet_execution.specs.Desk.{Desk}
use Rattle.fleet_execution.specs.Executes.{IsStep}
use Rattle.fleet_execution.specs.Checked.{AreMarked, IsOff, Exchanges, IsPlacement}

pub off_no_step : (d : Desk) (to : List ℕ) (r : ℕ) → r < d.count → IsOff to d.cells r → IsStep d to → ⊥
off_no_step d to r inside off step = elim off [
  | inl far ↦ omega (arith, far, step.inside r inside)
  | inr twice ↦ omega (arith, twice.1, step.distinct twice.0 r (omega (arith, twice.1, inside)) inside twice.2)
]

pub exchange_no_step : (d : Desk) (to : List ℕ) (r q : ℕ) → r < d.count → Exchanges d to r q → IsStep d to → ⊥
exchange_no_step d to r q inside e step = e.other (sym (step.no_swap r q inside e.inside e.back e.there))

pub step_is : (d : Desk) (to marks : List ℕ) → length to ≡ d.count → length marks ≡ d.cells → AreMarked to marks d.count
    → ((r q : ℕ) → r < d.count → Exchanges d to r q → ⊥) → IsStep d to
step_is d to marks robots size m none = record {
  robots = robots;
  inside = λ r r_in. omega (arith, m.inside r r_in, size);
  distinct = λ r q r_in q_in same. sym (m.mark r r_in) ∙ (ap (λ (c : ℕ). get_or marks c 0) same ∙ m.mark q q_in);
  no_swap = λ r q r_in q_in back there. elim (cases_eq q r) [
    | inl one ↦ sym one
    | inr other ↦ absurd (none r q r_in (record { inside = q_in; other = other; there = there; back = back }))
  ];
}

pub marked_more : (to marks : List ℕ) (n : ℕ) → AreMarked to marks n → get_or to n 0 < length marks
    → (get_or marks (get_or to n 0) 0 < n → get_or to (get_or marks (get_or to n 0) 0) 0 ≡ get_or to n 0 → ⊥) → AreMarked to (set marks (get_or to n 0) n) (n + 1)
marked_more to marks n m fits fresh = record {
  inside = λ r small. elim (cases_eq r n) [
    | inl here ↦ omega (arith, ap (λ (k : ℕ). get_or to k 0) here, fits, length-set marks (get_or to n 0) n)
    | inr other ↦ omega (arith, m.inside r (below r small other), length-set marks (get_or to n 0) n)
  ];
  mark = λ r small. elim (cases_eq r n) [
    | inl here ↦ ap (λ (k : ℕ). get_or (set marks (get_or to n 0) n) (get_or to k 0) 0) here ∙ (get_or-set_same marks (get_or to n 0) n 0 fits ∙ sym here)
    | inr other ↦ get_or-set_other marks (get_or to n 0) (get_or to r 0) n 0 (apart r (below r small other)) ∙ m.mark r (below r small other)
  ];
}
  where
    below : (r : ℕ) → r < n + 1 → r ≢ n → r < n
    below r small other = elim (cases_lt r n) [ inl less ↦ less | inr at ↦ absurd (other (omega (arith, at, small))) ]

    apart : (r : ℕ) → r < n → get_or to r 0 ≢ get_or to n 0
    apart r small same =
        let at : get_or marks (get_or to n 0) 0 ≡ r = ap (λ (c : ℕ). get_or marks c 0) (sym same) ∙ m.mark r small in
        fresh (omega (arith, at, small)) (ap (λ (k : ℕ). get_or to k 0) at ∙ same)

-- the robot that came to this one's last cell is the one that is marked there
pub exchange_marked : (d : Desk) (to marks : List ℕ) (r q : ℕ) → AreMarked to marks d.count → Exchanges d to r q → get_or marks (d.robot r).last 0 ≡ q
exchange_marked d to marks r q m e = ap (λ (c : ℕ). get_or marks c 0) (sym e.there) ∙ m.mark q e.inside

pub off_no_placement : (cells : ℕ) (placement : List ℕ) (r : ℕ) → r < length placement → IsOff placement cells r → IsPlacement cells placement → ⊥
off_no_placement cells placement r inside off is = elim off [
  | inl far ↦ omega (arith, far, is.inside r inside)
  | inr twice ↦ omega (arith, twice.1, is.distinct twice.0 r (omega (arith, twice.1, inside)) inside twice.2)
]

pub placement_is : (cells : ℕ) (placement marks : List ℕ) → length marks ≡ cells → AreMarked placement marks (length placement) → IsPlacement cells placement
placement_is cells placement marks size m = record {
  inside = λ r r_in. omega (arith, m.inside r r_in, size);
  distinct = λ r q r_in q_in same. sym (m.mark r r_in) ∙ (ap (λ (c : ℕ). get_or marks c 0) same ∙ m.mark q q_in);
}
