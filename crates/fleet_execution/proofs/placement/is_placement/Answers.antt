-- Which cells are a placement.
use Rattle.std.proofs.Common.{◌≡◌, ℕ, true, false, inl, inr, ap, subst, length, ◌∙◌, arith}
use Rattle.std.proofs.lemmas.Bool.{cases_Bool}
use Rattle.std.proofs.lemmas.List.{length-replicate}
use Rattle.fleet_execution.specs.Checked.{IsOff}
use Rattle.fleet_execution.proofs.Few.{few_robots}
use Rattle.fleet_execution.proofs.Checking.{off_no_placement, placement_is}
use Rattle.fleet_execution.proofs.placement.is_placement.Goals as goal

two : false ≡ true → ⊥
two e = cc

pub returns-then-placement-cells : goal.returns-then-placement-cells
returns-then-placement-cells g c = (
  λ it_is. absurd (two it_is),
  λ is. absurd (omega (arith, few_robots c.args.placement.now c.args.cells is.inside is.distinct, c.if-placement-cells.true)),
)

pub returns : goal.returns
returns g c =
    let size : length c.mark_all.new.marks ≡ c.args.cells = c.mark_all.ensures.size ∙ (ap length c.in_ok-marks.ensures ∙ length-replicate c.args.cells 0) in
    let before : length c.in_ok-marks.marks ≡ c.args.cells = ap length c.in_ok-marks.ensures ∙ length-replicate c.args.cells 0 in (
      λ it_is. placement_is c.args.cells c.args.placement.now c.mark_all.new.marks size (c.mark_all.ensures.marked it_is),
      λ is. elim (cases_Bool c.mark_all.result) [
        | inl held ↦ held
        | inr failed ↦ (
            let found = c.mark_all.ensures.off failed in
            absurd (off_no_placement c.args.cells c.args.placement.now found.0 found.1 (subst (λ (n : ℕ). IsOff c.args.placement.now n found.0) before found.2) is))
      ],
    )
