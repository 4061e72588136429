-- Robots cannot stand so.
use Rattle.std.proofs.Common.{ℕ, List, inr, refl, sym, ◌∙◌, subst}
use Rattle.std.proofs.lemmas.Bool.{false≢true}
use Rattle.fleet_execution.specs.Checked.{IsPlacement}
use Rattle.fleet_execute.specs.Placed.{IsAbove}
use Rattle.fleet_execute.specs.Placed.IsUnfit.{unplaced}
use Rattle.fleet_execute.proofs.placed.opened.Goals as goal

pub returns-then-not-branch-clause-refused : goal.returns-then-not-branch-clause-refused
returns-then-not-branch-clause-refused c =
    let n = c.after_greatest-count.result in
    inr (
      refl,
      unplaced n (subst (λ (xs : List ℕ). IsAbove n xs) (c.deref.ensures.value ∙ c.in_ok-cells.ensures) c.after_greatest-count.ensures)
          (λ p. false≢true (sym c.if-not-branch.true ∙ c.in_ok-is_placement.ensures.1 (subst (λ (xs : List ℕ). IsPlacement n xs) (sym c.at-first.ensures) p))),
    )
