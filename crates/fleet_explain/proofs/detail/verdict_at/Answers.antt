-- The take at the place, and the verdict that was due.
use Rattle.std.proofs.Common.{◌≡◌, ◌-◌, ◌<◌, ◌∙◌, Some, length, refl, ap, arith}
use Rattle.std.specs.Prelude.{slice_get}
use Rattle.std.proofs.lemmas.Option.{slice_get_read}
use Rattle.std.proofs.lemmas.Result.{IfOk-weaker}
use Rattle.fleet_history.specs.declared.history.Entry.{Entry}
use Rattle.fleet_history.specs.History.{history_of}
use Rattle.fleet_explain.proofs.AtEntry.{entry_at}
use Rattle.fleet_explain.proofs.Verdicts.{client_known, verdict_told}
use Rattle.fleet_explain.proofs.detail.verdict_at.Goals as goal

pub due_verdict-requires-clause-legal : goal.due_verdict-requires-clause-legal
due_verdict-requires-clause-legal c = (entry_at c.args.grid.now (history_of c.args.chapter.now) c.args.at 3 (λ bad. omega (arith, bad)) c.requires).legal

pub due_verdict-requires-clause-client : goal.due_verdict-requires-clause-client
due_verdict-requires-clause-client c =
    let h = history_of c.args.chapter.now in
    let at = c.args.at in
    let k = entry_at c.args.grid.now h at 3 (λ bad. omega (arith, bad)) c.requires in
    let inside : at - 1 < length h.entries = omega (arith, k.low, k.high) in
    let there : slice_get h.entries (at - 1) ≡ Some c.index.result.now = slice_get_read h.entries (length h.entries) (at - 1) c.index.result.now refl inside c.index.ensures in
    client_known c.args.grid.now h at c.in-Take.client c.in-Take.order c.in-Take.verdict (there ∙ ap (λ (e : Entry _). Some e) c.in-Take.is) c.requires

pub returns-in-Take : goal.returns-in-Take
returns-in-Take c =
    let m = c.args.grid.now in
    let h = history_of c.args.chapter.now in
    let at = c.args.at in
    let k = entry_at m h at 3 (λ bad. omega (arith, bad)) c.requires in
    let inside : at - 1 < length h.entries = omega (arith, k.low, k.high) in
    let there : slice_get h.entries (at - 1) ≡ Some c.index.result.now = slice_get_read h.entries (length h.entries) (at - 1) c.index.result.now refl inside c.index.ensures in
    IfOk-weaker c.due_verdict.result _ _
    (λ d is. verdict_told m h at c.requires c.in-Take.client c.in-Take.order c.in-Take.verdict (there ∙ ap (λ (e : Entry _). Some e) c.in-Take.is) d is) c.due_verdict.ensures
