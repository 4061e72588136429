-- The entry at the place, and its stamps.
use Rattle.std.proofs.Common.{◌≡◌, ◌-◌, ◌<◌, ◌∙◌, List, Some, length, refl, ap, sym, subst, arith}
use Rattle.std.specs.Prelude.{slice_get}
use Rattle.std.proofs.lemmas.Option.{slice_get_read}
use Rattle.fleet_history.specs.declared.history.RobotState.{RobotState}
use Rattle.fleet_history.specs.History.{history_of}
use Rattle.fleet_explain.specs.declared.detail.Detail.{Detail}
use Rattle.fleet_explain.specs.Stamps.{first_outside, stamps_of}
use Rattle.fleet_explain.specs.Details.{IsDetail}
use Rattle.fleet_explain.proofs.AtEntry.{entry_at}
use Rattle.fleet_explain.proofs.Stamps.{stamp_told}
use Rattle.fleet_explain.proofs.stamp.stamp_at.Goals as goal

pub returns : goal.returns
returns c =
    let m = c.args.grid.now in
    let h = history_of c.args.chapter.now in
    let at = c.args.at in
    let k = entry_at m h at 7 (λ bad. omega (arith, bad)) c.requires in
    let inside : at - 1 < length h.entries = omega (arith, k.low, k.high) in
    let there : slice_get h.entries (at - 1) ≡ Some c.index-entry.result.now = slice_get_read h.entries (length h.entries) (at - 1) c.index-entry.result.now refl inside c.index-entry.ensures in
    subst (λ (d : Detail). IsDetail m h at 7 d) (sym c.detail_of.ensures)
    (stamp_told m h at c.requires c.index-entry.result.now there c.first_outside.result
    (c.first_outside.ensures ∙ ap (λ (xs : List (RobotState _)). first_outside (stamps_of xs c.index-entry.result.now)) c.as_slice.ensures))
