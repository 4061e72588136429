-- The two cells of a column.
use Rattle.std.proofs.Common.{◌≡◌, ◌∙◌, ℕ, List, ap, subst}
use Rattle.std.proofs.lemmas.Result.{on_ok_weaker}
use Rattle.fleet_sim.proofs.Spreads.{added}
use Rattle.fleet_sim.specs.Table.{IsDeviationCell, mean_cell, values_of}
use Rattle.fleet_sim.proofs.line.push_spread.Goals as goal

pub returns : goal.returns
returns c =
    let values = values_of c.args.column c.args.runs.now in
    let first : c.deref.result.now ≡ values = c.deref.ensures.value ∙ c.in_ok-values.ensures in
    let second : c.deref-2.result.now ≡ values = c.deref-2.ensures.value ∙ c.in_ok-values.ensures in
    on_ok_weaker c.extend_from_slice.result
    (λ e. (
      c.mean_cell-mean.result,
      c.deviation_cell-deviation.result,
      record {
        mean_is = c.mean_cell-mean.ensures ∙ ap mean_cell first;
        deviation_is = subst (λ (xs : List ℕ). IsDeviationCell xs c.deviation_cell-deviation.result) second c.deviation_cell-deviation.ensures;
      },
      e,
    ))
    (added c.extend_from_slice.result _ _ _ c.extend_from_slice.ensures.items)
