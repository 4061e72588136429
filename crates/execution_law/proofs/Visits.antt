-- Stays on cells, in the order of the plan.
use Rattle.std.proofs.Common.{◌≡◌, ◌≢◌, ℕ, zero, suc, ◌+◌, ◌-◌, ◌<◌, ◌≤◌, inl, inr, sym, ap, ◌∙◌, subst, refl, arith}
use Rattle.std.proofs.lemmas.Bool.{cases_eq, cases_lt}
use Rattle.execution_law.specs.declared.clearance.Clearance.TheVariants.{Arrived, Started}
use Rattle.execution_law.specs.Run.{Run, Moves, Leaves, Turns}
use Rattle.execution_law.specs.Rule.{HasEnded, IsNext, IsLawful}

-- a robot leaves, or enters, a cell in a step after `low`, at latest in `high`
pub record LeavesBetween (run : Run) (r low high c : ℕ) : Type 0 where
  pub step : ℕ
  pub after : low < step
  pub until : step ≤ high
  pub leaves : Leaves run.plan r step c

pub record EntersBetween (run : Run) (r low high c : ℕ) : Type 0 where
  pub step : ℕ
  pub after : low < step
  pub until : step ≤ high
  pub moves : Moves run.plan r step
  pub cell : run.plan.cell step r ≡ c

pub at_step : (run : Run) (r s t : ℕ) → s ≡ t → run.plan.cell s r ≡ run.plan.cell t r
at_step run r s t e = ap (λ (k : ℕ). run.plan.cell k r) e

-- a robot that is on the cell, and later is not, leaves it between
pub left_between : (run : Run) (r c low n : ℕ) → run.plan.cell low r ≡ c → run.plan.cell (low + n) r ≢ c → LeavesBetween run r low (low + n) c
left_between run r c low zero on off = absurd (off (at_step run r (low + 0) low (omega arith) ∙ on))
left_between run r c low (suc n) on off = elim (cases_eq (run.plan.cell (low + n) r) c) [
  | inl there ↦ (
      let back : low + suc n - 1 ≡ low + n = omega arith in
      let was : run.plan.cell (low + suc n - 1) r ≡ c = at_step run r (low + suc n - 1) (low + n) back ∙ there in
      record {
        step = low + suc n;
        after = omega arith;
        until = omega arith;
        leaves = record { moves = record { later = omega arith; other = λ same. off (same ∙ was) }; cell = was };
      })
  | inr gone ↦ (
      let earlier = left_between run r c low n on gone in
      record { step = earlier.step; after = earlier.after; until = omega (arith, earlier.until); leaves = earlier.leaves })
]

-- a robot that is not on the cell, and later is, enters it between, and stays
pub entered_between : (run : Run) (r c low n : ℕ) → run.plan.cell low r ≢ c → run.plan.cell (low + n) r ≡ c → EntersBetween run r low (low + n) c
entered_between run r c low zero off on = absurd (off (at_step run r low (low + 0) (omega arith) ∙ on))
entered_between run r c low (suc n) off on = elim (cases_eq (run.plan.cell (low + n) r) c) [
  | inl there ↦ (
      let earlier = entered_between run r c low n off there in
      record { step = earlier.step; after = earlier.after; until = omega (arith, earlier.until); moves = earlier.moves; cell = earlier.cell })
  | inr gone ↦ (
      let back : low + n ≡ low + suc n - 1 = omega arith in
      record {
        step = low + suc n;
        after = omega arith;
        until = omega arith;
        moves = record { later = omega arith; other = λ same. gone (at_step run r (low + n) (low + suc n - 1) back ∙ (sym same ∙ on)) };
        cell = on;
      })
]

-- a robot stays where it is until its next move
pub stays : (run : Run) (r t k : ℕ) → IsNext run r t → run.begun r ≤ k → k < t → run.plan.cell k r ≡ run.plan.cell (t - 1) r
stays run r t k next from before = elim (cases_eq (run.plan.cell (t - 1) r) (run.plan.cell k r)) [
  | inl same ↦ sym same
  | inr gone ↦ absurd (
      let to : k + (t - 1 - k) ≡ t - 1 = omega arith in
      let off : run.plan.cell (k + (t - 1 - k)) r ≢ run.plan.cell k r = λ (same : run.plan.cell (k + (t - 1 - k)) r ≡ run.plan.cell k r).
      gone (at_step run r (t - 1) (k + (t - 1 - k)) (sym to) ∙ same) in
      let leaves = left_between run r (run.plan.cell k r) k (t - 1 - k) refl off in
      next.first leaves.step (omega (arith, from, leaves.after)) (omega (arith, leaves.until, to, before)) leaves.leaves.moves)
]

-- a stay that has ended was ended by a move that has begun
pub ended-begun : (run : Run) (q e : ℕ) → IsLawful run → q < run.plan.robots → HasEnded run q e → e ≤ run.begun q
ended-begun run q e lawful inside ended = elim ended [
  | inl there ↦ omega (arith, there, lawful.behind q inside)
  | inr both ↦ both.0
]

-- no other robot has begun a later stay on the cell for which a robot is bound
pub no_later_stay : (run : Run) (r q k : ℕ) → IsLawful run → r < run.plan.robots → q < run.plan.robots → run.begun r ≤ k → k ≤ run.begun q → run.plan.cell k q ≡ run.plan.cell (run.begun r) r → r ≡ q
no_later_stay run r q k lawful r_in q_in after begun same = elim (cases_eq r q) [
  | inl one ↦ one
  | inr two ↦ absurd (apart two)
]
  where
    c : ℕ
    c = run.plan.cell (run.begun r) r

    apart : r ≢ q → ⊥
    apart two =
        let low = run.begun r in
        let n = k - run.begun r in
        let to_k : run.begun r + (k - run.begun r) ≡ k = omega arith in
        let inside : k ≤ run.plan.steps = omega (arith, lawful.within q q_in) in
        let q_off : run.plan.cell (run.begun r) q ≢ run.plan.cell (run.begun r) r = λ (e : run.plan.cell (run.begun r) q ≡ run.plan.cell (run.begun r) r). two (lawful.free_of_conflicts.distinct (run.begun r) r q (omega (arith, lawful.within r r_in)) r_in q_in (sym e)) in
        let q_on : run.plan.cell (run.begun r + (k - run.begun r)) q ≡ run.plan.cell (run.begun r) r = at_step run q (run.begun r + (k - run.begun r)) k to_k ∙ same in
        let enters = entered_between run q (run.plan.cell (run.begun r) r) (run.begun r) (k - run.begun r) q_off q_on in
        let gap : run.begun r + (enters.step - run.begun r) ≡ enters.step = omega (arith, enters.after) in
        let r_off : run.plan.cell (run.begun r + (enters.step - run.begun r)) r ≢ run.plan.cell (run.begun r) r = λ (e : run.plan.cell (run.begun r + (enters.step - run.begun r)) r ≡ run.plan.cell (run.begun r) r). two (lawful.free_of_conflicts.distinct enters.step r q (omega (arith, enters.until)) r_in q_in (at_step run r enters.step (run.begun r + (enters.step - run.begun r)) (sym gap) ∙ (e ∙ sym enters.cell))) in
        let leaves = left_between run r (run.plan.cell (run.begun r) r) (run.begun r) (enters.step - run.begun r) refl r_off in
        let leaves_there : Leaves run.plan r leaves.step (run.plan.cell enters.step q) = subst (λ (x : ℕ). Leaves run.plan r leaves.step x) (sym enters.cell) leaves.leaves in
        let ended = lawful.order q enters.step r leaves.step q_in (omega (arith, enters.until, to_k)) enters.moves r_in (omega (arith, leaves.until, gap)) leaves_there in
        let done = ended-begun run r leaves.step lawful r_in ended in
        omega (arith, done, leaves.after)

-- the cells for which robots are bound are distinct
pub bound_apart : (run : Run) (r q : ℕ) → IsLawful run → r < run.plan.robots → q < run.plan.robots → run.plan.cell (run.begun r) r ≡ run.plan.cell (run.begun q) q → r ≡ q
bound_apart run r q lawful r_in q_in same = elim (cases_lt (run.begun q) (run.begun r)) [
  | inl later ↦ sym (no_later_stay run q r (run.begun r) lawful q_in r_in (omega arith) (omega arith) same)
  | inr earlier ↦ no_later_stay run r q (run.begun q) lawful r_in q_in earlier (omega arith) (sym same)
]

at_most_before : (a b : ℕ) → (b ≡ a → ⊥) → a ≤ b → a ≤ b - 1
at_most_before a b two le = elim (cases_lt a b) [
  | inl less ↦ omega arith
  | inr same ↦ absurd (two (omega arith))
]

-- no two robots have exchanged their cells by their last moves
pub no_exchange : (run : Run) (r q : ℕ) → IsLawful run → r < run.plan.robots → q < run.plan.robots → 0 < run.begun r → 0 < run.begun q
    → run.plan.cell (run.begun r) r ≡ run.plan.cell (run.begun q - 1) q → run.plan.cell (run.begun q) q ≡ run.plan.cell (run.begun r - 1) r → r ≡ q
no_exchange run r q lawful r_in q_in r_some q_some there back = elim (cases_eq (run.begun r) (run.begun q)) [
  | inl one ↦ lawful.free_of_conflicts.no_swap (run.begun r) r q r_some (lawful.within r r_in) r_in q_in
      (there ∙ at_step run q (run.begun q - 1) (run.begun r - 1) (omega arith)) (at_step run q (run.begun r) (run.begun q) one ∙ back)
  | inr two ↦ elim (cases_lt (run.begun r) (run.begun q)) [
    | inl earlier ↦ no_later_stay run r q (run.begun q - 1) lawful r_in q_in (omega arith) (omega arith) (sym there)
    | inr later ↦ (
        let before : run.begun q ≤ run.begun r - 1 = at_most_before (run.begun q) (run.begun r) two later in
        sym (no_later_stay run q r (run.begun r - 1) lawful q_in r_in before (omega arith) (sym back)))
  ]
]

-- under `Arrived` nobody is bound for the cell that a robot is leaving, unless it turns in a cycle
pub left_alone : (run : Run) (r q : ℕ) → IsLawful run → run.clearance ≡ Arrived → r < run.plan.robots → q < run.plan.robots → run.reached r < run.begun r
    → (Turns run.plan (run.begun r) r → ⊥) → run.plan.cell (run.begun q) q ≡ run.plan.cell (run.begun r - 1) r → r ≡ q
left_alone run r q lawful arrived r_in q_in under_way straight same = elim (cases_eq r q) [
  | inl one ↦ one
  | inr two ↦ absurd (elim (cases_lt (run.begun q) (run.begun r)) [
    | inl earlier ↦ two (sym (no_later_stay run q r (run.begun r - 1) lawful q_in r_in (omega arith) (omega arith) (sym same)))
    | inr later ↦ entered two later
  ])
]
  where
    other : Arrived ≡ Started → ⊥
    other e = cc

    entered : (r ≡ q → ⊥) → run.begun r ≤ run.begun q → ⊥
    entered two later =
        let some : 0 < run.begun r = omega arith in
        let to : run.begun r - 1 + (run.begun q - (run.begun r - 1)) ≡ run.begun q = omega arith in
        let off : run.plan.cell (run.begun r - 1) q ≢ run.plan.cell (run.begun r - 1) r = λ (e : run.plan.cell (run.begun r - 1) q ≡ run.plan.cell (run.begun r - 1) r).
        two (lawful.free_of_conflicts.distinct (run.begun r - 1) r q (omega (arith, lawful.within r r_in)) r_in q_in (sym e)) in
        let on : run.plan.cell (run.begun r - 1 + (run.begun q - (run.begun r - 1))) q ≡ run.plan.cell (run.begun r - 1) r = at_step run q (run.begun r - 1 + (run.begun q - (run.begun r - 1))) (run.begun q) to ∙ same in
        let enters = entered_between run q (run.plan.cell (run.begun r - 1) r) (run.begun r - 1) (run.begun q - (run.begun r - 1)) off on in
        let leaves : Leaves run.plan r (run.begun r) (run.plan.cell enters.step q) = record { moves = lawful.moves r r_in some; cell = sym enters.cell } in
        elim (lawful.order q enters.step r (run.begun r) q_in (omega (arith, enters.until, to)) enters.moves r_in (omega (arith, enters.after, some)) leaves) [
          | inl there ↦ omega (arith, there, under_way)
          | inr both ↦ elim both.1 [
            | inl started ↦ other (sym arrived ∙ started)
            | inr turns ↦ straight turns
          ]
        ]

-- if the last stay on a cell has ended, so has each before it
pub ended_before : (run : Run) (p last c : ℕ) → IsLawful run → p < run.plan.robots → Leaves run.plan p last c → HasEnded run p last
    → (q e : ℕ) → q < run.plan.robots → e ≤ last → Leaves run.plan q e c → HasEnded run q e
ended_before run p last c lawful p_in leaves ended q e q_in early q_leaves = elim (cases_eq e last) [
  | inl same ↦ (
      let q_now : run.plan.cell (last - 1) q ≡ c = at_step run q (last - 1) (e - 1) (omega arith) ∙ q_leaves.cell in
      let one : p ≡ q = lawful.free_of_conflicts.distinct (last - 1) p q (omega (arith, begun, lawful.within p p_in)) p_in q_in (leaves.cell ∙ sym q_now) in
      let here : HasEnded run q last = subst (λ (x : ℕ). HasEnded run x last) one ended in
      subst (λ (x : ℕ). HasEnded run q x) (sym same) here)
  | inr other ↦ elim (cases_eq q p) [
    | inl one ↦ enters_after e (omega arith) (omega (arith, at_most_before e last (λ s. other (sym s)) early)) (λ on. q_leaves.moves.other (ap (λ (x : ℕ). run.plan.cell e x) one ∙ (on ∙ sym q_leaves.cell)))
    | inr two ↦ enters_after (e - 1) (omega (arith, q_leaves.moves.later)) (omega (arith, at_most_before e last (λ s. other (sym s)) early))
        (λ on. two (lawful.free_of_conflicts.distinct (e - 1) q p (omega (arith, early, begun, lawful.within p p_in)) q_in p_in (q_leaves.cell ∙ sym on)))
  ]
]
  where
    begun : last ≤ run.begun p
    begun = ended-begun run p last lawful p_in ended

    -- p is not on the cell after step `low`, and enters it later
    enters_after : (low : ℕ) → e ≤ suc low → low ≤ last - 1 → run.plan.cell low p ≢ c → HasEnded run q e
    enters_after low from until off =
        let to : low + (last - 1 - low) ≡ last - 1 = omega arith in
        let on : run.plan.cell (low + (last - 1 - low)) p ≡ c = at_step run p (low + (last - 1 - low)) (last - 1) to ∙ leaves.cell in
        let enters = entered_between run p c low (last - 1 - low) off on in
        lawful.order p enters.step q e p_in (omega (arith, enters.until, to, begun)) enters.moves q_in (omega (arith, enters.after, from)) (subst (λ (x : ℕ). Leaves run.plan q e x) (sym enters.cell) q_leaves)
