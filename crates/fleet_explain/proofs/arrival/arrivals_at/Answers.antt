-- The tick at the place, and its arrivals.
use Rattle.std.proofs.Common.{◌≡◌, ◌-◌, ◌<◌, ◌∙◌, Some, length, refl, ap, arith, rules}
use Rattle.std.specs.Prelude.{slice_get}
use Rattle.std.proofs.lemmas.Option.{slice_get_read}
use Rattle.std.proofs.lemmas.Result.{IfOk-weaker}
use Rattle.fleet_history.specs.declared.history.Entry.{Entry}
use Rattle.fleet_history.specs.declared.history.Entry.TheVariants.{Tick}
use Rattle.fleet_history.specs.History.{history_of}
use Rattle.fleet_explain.proofs.AtEntry.{entry_at}
use Rattle.fleet_explain.proofs.Arrivals.{as_many, arrivals_told, no_take, no_shut}
use Rattle.fleet_explain.proofs.arrival.arrivals_at.Goals as goal

pub arrival_detail-requires-clause-legal : goal.arrival_detail-requires-clause-legal
arrival_detail-requires-clause-legal c = (entry_at c.args.grid.now (history_of c.args.chapter.now) c.args.at 5 (λ bad. omega (arith, bad)) c.requires).legal

pub arrival_detail-requires-clause-robots : goal.arrival_detail-requires-clause-robots
arrival_detail-requires-clause-robots c =
    let m = c.args.grid.now in
    let h = history_of c.args.chapter.now in
    let at = c.args.at in
    let k = entry_at m h at 5 (λ bad. omega (arith, bad)) c.requires in
    let inside : at - 1 < length h.entries = omega (arith, k.low, k.high) in
    let there : slice_get h.entries (at - 1) ≡ Some c.index.result.now = slice_get_read h.entries (length h.entries) (at - 1) c.index.result.now refl inside c.index.ensures in
    ap length c.as_slice-to.ensures ∙ as_many m h at c.requires c.index.result.now there c.in-Tick.to c.in-Tick.arrived c.in-Tick.farewells c.in-Tick.is

pub returns-in-Tick : goal.returns-in-Tick
returns-in-Tick c =
    let m = c.args.grid.now in
    let h = history_of c.args.chapter.now in
    let at = c.args.at in
    let k = entry_at m h at 5 (λ bad. omega (arith, bad)) c.requires in
    let inside : at - 1 < length h.entries = omega (arith, k.low, k.high) in
    let there : slice_get h.entries (at - 1) ≡ Some c.index.result.now = slice_get_read h.entries (length h.entries) (at - 1) c.index.result.now refl inside c.index.ensures in
    let tick : c.index.result.now ≡ Tick c.as_slice-to.result.now c.as_slice-arrived.result.now c.in-Tick.farewells = search rules in
    IfOk-weaker c.arrival_detail.result _ _
    (λ d is. arrivals_told m h at c.requires c.as_slice-to.result.now c.as_slice-arrived.result.now c.in-Tick.farewells (there ∙ ap (λ (e : Entry _). Some e) tick) d is) c.arrival_detail.ensures

pub returns-in-Take : goal.returns-in-Take
returns-in-Take c =
    let h = history_of c.args.chapter.now in
    let at = c.args.at in
    let k = entry_at c.args.grid.now h at 5 (λ bad. omega (arith, bad)) c.requires in
    let inside : at - 1 < length h.entries = omega (arith, k.low, k.high) in
    let there : slice_get h.entries (at - 1) ≡ Some c.index.result.now = slice_get_read h.entries (length h.entries) (at - 1) c.index.result.now refl inside c.index.ensures in
    absurd (no_take c.args.grid.now h at c.requires c.index.result.now there c.in-Take.client c.in-Take.order c.in-Take.verdict c.in-Take.is)

pub returns-in-Shut : goal.returns-in-Shut
returns-in-Shut c =
    let h = history_of c.args.chapter.now in
    let at = c.args.at in
    let k = entry_at c.args.grid.now h at 5 (λ bad. omega (arith, bad)) c.requires in
    let inside : at - 1 < length h.entries = omega (arith, k.low, k.high) in
    let there : slice_get h.entries (at - 1) ≡ Some c.index.result.now = slice_get_read h.entries (length h.entries) (at - 1) c.index.result.now refl inside c.index.ensures in
    absurd (no_shut c.args.grid.now h at c.requires c.index.result.now there c.in-Shut.robot c.in-Shut.farewell c.in-Shut.is)
