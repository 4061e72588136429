use Rattle.std.proofs.Common.{◌≡◌, ℕ, ◌+◌, ◌<◌, ◌⊎◌, List, [], ◌∷◌, ◌++◌, length, slice_index, sym, ap, subst, ◌∙◌, arith}
use Rattle.fleet_field.specs.inside.Uses.{HasGoal, IsOneOf}
use Rattle.fleet_field.proofs.Missing.{each_same, each_more, only_more}
use Rattle.fleet_field.proofs.holds.missing_of.Goals as goal
use Rattle.fleet_field.proofs.holds.missing_of.Goals.{then-is_missing+in_ok-push, else-is_missing}

pub loop-goal-preserved : goal.loop-goal-preserved
loop-goal-preserved g c =
    let i = c.loop-goal.invariant in
    let n = c.loop-goal.goal-index in
    let less : n < length c.args.goals.now = omega (arith, c.loop-goal-test.true) in
    elim c.if-is_missing.branch [
      | then-is_missing+in_ok-push w ↦ (
          let e : c.if-is_missing.missing.items ≡ c.loop-goal.missing.items ++ slice_index c.args.goals.now n ∷ [] = ap (λ v. v.items) w.missing-is ∙ w.in_ok-push.ensures.items in
          record {
            each = subst (λ (xs : List ℕ). (k : ℕ) → k < n + 1 → HasGoal c.args.held.now.slots (slice_index c.args.goals.now k) ⊎ IsOneOf xs (slice_index c.args.goals.now k)) (sym e) (each_more c.args.held.now.slots c.args.goals.now c.loop-goal.missing.items n less i.each);
            only = subst (λ (xs : List ℕ). (k : ℕ) → k < length xs → IsOneOf c.args.goals.now (slice_index xs k)) (sym e) (only_more c.args.held.now.slots c.args.goals.now c.loop-goal.missing.items n less i.each i.only);
          })
      | else-is_missing w ↦ (
          let e : c.if-is_missing.missing.items ≡ c.loop-goal.missing.items = ap (λ v. v.items) w.missing-is in
          let here : HasGoal c.args.held.now.slots (slice_index c.args.goals.now n) ⊎ IsOneOf c.loop-goal.missing.items (slice_index c.args.goals.now n) =
          subst (λ (xs : List ℕ). HasGoal c.args.held.now.slots (slice_index c.args.goals.now n) ⊎ IsOneOf xs (slice_index c.args.goals.now n)) c.deref.ensures.value (c.is_missing.ensures w.if-is_missing.false) in
          record {
            each = subst (λ (xs : List ℕ). (k : ℕ) → k < n + 1 → HasGoal c.args.held.now.slots (slice_index c.args.goals.now k) ⊎ IsOneOf xs (slice_index c.args.goals.now k)) (sym e) (each_same c.args.held.now.slots c.args.goals.now c.loop-goal.missing.items n less i.each here);
            only = subst (λ (xs : List ℕ). (k : ℕ) → k < length xs → IsOneOf c.args.goals.now (slice_index xs k)) (sym e) i.only;
          })
    ]

pub returns-clause-each : goal.returns-clause-each
returns-clause-each g c = λ k below. c.loop-goal.invariant.each k (omega (arith, c.loop-goal-test.false, below))
