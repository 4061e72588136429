-- The shut at the place.
use Rattle.std.proofs.Common.{◌≡◌, ◌-◌, ◌<◌, ◌∙◌, Some, length, refl, ap, arith}
use Rattle.std.specs.Prelude.{slice_get}
use Rattle.std.proofs.lemmas.Option.{slice_get_read}
use Rattle.fleet_history.specs.declared.history.Entry.{Entry}
use Rattle.fleet_history.specs.History.{history_of}
use Rattle.fleet_explain.specs.Details.{why_not_shut}
use Rattle.fleet_explain.proofs.AtEntry.{entry_at}
use Rattle.fleet_explain.proofs.Shuts.{shut_told}
use Rattle.fleet_explain.proofs.detail.shut_at.Goals as goal

pub returns-in-Shut : goal.returns-in-Shut
returns-in-Shut c =
    let m = c.args.grid.now in
    let h = history_of c.args.chapter.now in
    let at = c.args.at in
    let k = entry_at m h at 8 (λ bad. omega (arith, bad)) c.requires in
    let inside : at - 1 < length h.entries = omega (arith, k.low, k.high) in
    let there : slice_get h.entries (at - 1) ≡ Some c.index.result.now = slice_get_read h.entries (length h.entries) (at - 1) c.index.result.now refl inside c.index.ensures in
    shut_told m h at c.in-Shut.robot c.in-Shut.farewell (there ∙ ap (λ (e : Entry _). Some e) c.in-Shut.is) c.why_not_shut.result (c.why_not_shut.ensures ∙ ap (λ n. why_not_shut n c.in-Shut.robot) c.len.ensures)
