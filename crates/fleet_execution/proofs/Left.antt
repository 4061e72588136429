-- The planned moves that a robot has left.
use Rattle.std.proofs.Common.{◌≡◌, ◌≢◌, ℕ, zero, suc, ◌+◌, ◌-◌, ◌<◌, ◌≤◌, inl, inr, Bool, true, false, not, ◌&&◌, eqb, ltb, cond, ◌⊎◌, refl, sym, ◌∙◌, ap, arith, rules}
use Rattle.std.proofs.lemmas.Bool.{cases_eq, cases_lt, ne_eqb}
use Rattle.std.proofs.lemmas.Bool.Decides.{eqb_tells}
use Rattle.execution_law.specs.Run.{Plan}
use Rattle.fleet_execution.specs.Course.{Course}
use Rattle.fleet_execution.specs.Desk.{Desk}
use Rattle.fleet_execution.specs.Executes.{changes, count_below, moves_between, Executes}
use Rattle.fleet_execution.proofs.Counting.{count_none}

abbrev is_left : Plan → ℕ → ℕ → ℕ → Bool
is_left plan r done t = ltb done t && changes plan t r

counted : (n : ℕ) (p : ℕ → Bool) → count_below (n + 1) p ≡ cond (p n) 1 0 + count_below n p
counted n p = let e : n + 1 ≡ suc n = omega arith in rw e refl

module _ (plan : Plan) (r done : ℕ) where
  early : (t : ℕ) → t ≤ done → is_left plan r done t ≡ false
  early t small = let b : ltb done t ≡ false = search rules in rw b refl

  same : (t : ℕ) → plan.cell t r ≡ plan.cell (t - 1) r → is_left plan r done t ≡ false
  same t e = elim (eqb_tells (plan.cell t r) (plan.cell (t - 1) r)) [
    | inl it_is ↦ and_false (ltb done t) (not (eqb (plan.cell t r) (plan.cell (t - 1) r))) (rw it_is.0 refl)
    | inr it_is_not ↦ absurd (it_is_not.1 e)
  ]
    where
      and_false : (a b : Bool) → b ≡ false → (a && b) ≡ false
      and_false true b e = e
      and_false false b e = refl

  moved : (t : ℕ) → done < t → plan.cell t r ≢ plan.cell (t - 1) r → is_left plan r done t ≡ true
  moved t large other =
      let b : ltb done t ≡ true = search rules in
      let n : eqb (plan.cell t r) (plan.cell (t - 1) r) ≡ false = ne_eqb (plan.cell t r) (plan.cell (t - 1) r) other in
      rw (b, n) refl

  back : (s : ℕ) → s + 1 - 1 ≡ s
  back s = omega arith

  pub left_same : (s : ℕ) → plan.cell (s + 1) r ≡ plan.cell s r → moves_between plan r done (s + 1) ≡ moves_between plan r done s
  left_same s e =
      let none : is_left plan r done (s + 1) ≡ false = same (s + 1) (e ∙ ap (λ (k : ℕ). plan.cell k r) (sym (back s))) in
      counted (s + 1) (is_left plan r done) ∙ ap (λ (b : Bool). cond b 1 0 + count_below (s + 1) (is_left plan r done)) none ∙ omega arith

  pub left_more : (s : ℕ) → done ≤ s → plan.cell (s + 1) r ≢ plan.cell s r → moves_between plan r done (s + 1) ≡ moves_between plan r done s + 1
  left_more s late other =
      let one : is_left plan r done (s + 1) ≡ true = moved (s + 1) (omega (arith, late)) (λ e. other (e ∙ ap (λ (k : ℕ). plan.cell k r) (back s))) in
      counted (s + 1) (is_left plan r done) ∙ ap (λ (b : Bool). cond b 1 0 + count_below (s + 1) (is_left plan r done)) one ∙ omega arith

  pub left_none : (s : ℕ) → ((t : ℕ) → done < t → t ≤ s → plan.cell t r ≡ plan.cell (t - 1) r) → moves_between plan r done s ≡ 0
  left_none s still = count_none (s + 1) (is_left plan r done) (λ t small. elim (cases_lt done t) [
    | inl late ↦ same t (still t late (omega (arith, small)))
    | inr soon ↦ early t soon
  ])

  stands : (n : ℕ) → ((t : ℕ) → done < t → t ≤ done + n → plan.cell t r ≡ plan.cell (t - 1) r) → plan.cell (done + n) r ≡ plan.cell done r
  stands zero still = let e : done + 0 ≡ done = omega arith in ap (λ (k : ℕ). plan.cell k r) e
  stands (suc n) still =
      let e : done + suc n - 1 ≡ done + n = omega arith in
      still (done + suc n) (omega arith) (omega arith) ∙ (ap (λ (k : ℕ). plan.cell k r) e ∙ stands n (λ t late small. still t late (omega (arith, small))))

  pub stands_until : (s : ℕ) → done ≤ s → ((t : ℕ) → done < t → t ≤ s → plan.cell t r ≡ plan.cell (t - 1) r) → plan.cell s r ≡ plan.cell done r
  stands_until s late still =
      let e : done + (s - done) ≡ s = omega (arith, late) in
      ap (λ (k : ℕ). plan.cell k r) (sym e) ∙ stands (s - done) (λ t after small. still t after (omega (arith, small, e)))

-- what is counted of a robot's moves up to step s, if it is in this cell then
pub record IsCounted (o : Course) (r s c n : ℕ) : Type 0 where
  pub planned : s ≤ o.run.plan.steps
  pub cell : c ≡ o.run.plan.cell s r
  pub left : n ≡ moves_between o.run.plan r (o.returned r) s

module _ (d : Desk) (o : Course) (x : Executes d o) (r : ℕ) (inside : r < o.run.plan.robots) where
  stays : (s : ℕ) → (s ≡ o.returned r) ⊎ (s + d.ahead ≤ o.run.plan.steps) → (t : ℕ) → o.returned r < t → t ≤ s → o.run.plan.cell t r ≡ o.run.plan.cell (t - 1) r
  stays s at t late small = elim (cases_eq (o.run.plan.cell t r) (o.run.plan.cell (t - 1) r)) [
    | inl e ↦ e
    | inr other ↦ elim at [
      | inl soon ↦ absurd (omega (arith, soon, late, small))
      | inr old ↦ absurd (omega (arith, x.counts.old r t inside (record { later = omega (arith, late); other = other }) (omega (arith, old, small)), x.course.low r inside, late))
    ]
  ]

  pub counts_first : (s : ℕ) → o.returned r ≤ s → s ≤ o.run.plan.steps → (s ≡ o.returned r) ⊎ (s + d.ahead ≤ o.run.plan.steps) → IsCounted o r s (d.robot r).bound 0
  counts_first s late planned at = record {
    planned = planned;
    cell = (x.tracked r inside).bound ∙ sym (stands_until o.run.plan r (o.returned r) s late (stays s at));
    left = sym (left_none o.run.plan r (o.returned r) s (stays s at));
  }

  to_is : (s : ℕ) → s < o.run.plan.steps → o.run.plan.steps ≤ s + d.ahead → (d.window r (s + 1)).to ≡ o.run.plan.cell (s + 1) r
  to_is s more kept = x.knows.to r (s + 1) inside (record { some = omega arith; planned = omega (arith, more); late = omega (arith, kept) })

  pub counts_same : (s cell left : ℕ) → s < o.run.plan.steps → o.run.plan.steps ≤ s + d.ahead → (d.window r (s + 1)).to ≡ cell → IsCounted o r s cell left → IsCounted o r (s + 1) cell left
  counts_same s cell left more kept e c = record {
    planned = omega (arith, more);
    cell = sym e ∙ to_is s more kept;
    left = c.left ∙ sym (left_same o.run.plan r (o.returned r) s (sym (to_is s more kept) ∙ (e ∙ c.cell)));
  }

  pub counts_more : (s cell left : ℕ) → s < o.run.plan.steps → o.run.plan.steps ≤ s + d.ahead → o.returned r ≤ s → (d.window r (s + 1)).to ≢ cell → IsCounted o r s cell left
      → IsCounted o r (s + 1) (d.window r (s + 1)).to (left + 1)
  counts_more s cell left more kept late other c = record {
    planned = omega (arith, more);
    cell = to_is s more kept;
    left = ap (λ (k : ℕ). k + 1) c.left ∙ sym (left_more o.run.plan r (o.returned r) s late (λ e. other (to_is s more kept ∙ (e ∙ sym c.cell))));
  }
