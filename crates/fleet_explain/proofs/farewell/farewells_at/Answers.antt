-- The entry at the place, and its farewells.
use Rattle.std.proofs.Common.{◌≡◌, ◌-◌, ◌<◌, ◌∙◌, Some, length, refl, ap, arith}
use Rattle.std.specs.Prelude.{slice_get}
use Rattle.std.proofs.lemmas.Option.{slice_get_read}
use Rattle.std.proofs.lemmas.Result.{IfOk-weaker}
use Rattle.fleet_history.specs.History.{history_of}
use Rattle.fleet_explain.proofs.AtEntry.{entry_at}
use Rattle.fleet_explain.proofs.Farewells.{as_many, tick_told, shut_told}
use Rattle.fleet_explain.proofs.farewell.farewells_at.Goals as goal

pub farewell_detail-requires-clause-legal : goal.farewell_detail-requires-clause-legal
farewell_detail-requires-clause-legal c = (entry_at c.args.grid.now (history_of c.args.chapter.now) c.args.at 6 (λ bad. omega (arith, bad)) c.requires).legal

pub farewell_detail-requires-clause-robots : goal.farewell_detail-requires-clause-robots
farewell_detail-requires-clause-robots c =
    let m = c.args.grid.now in
    let h = history_of c.args.chapter.now in
    let at = c.args.at in
    let k = entry_at m h at 6 (λ bad. omega (arith, bad)) c.requires in
    let inside : at - 1 < length h.entries = omega (arith, k.low, k.high) in
    let there : slice_get h.entries (at - 1) ≡ Some c.index.result.now = slice_get_read h.entries (length h.entries) (at - 1) c.index.result.now refl inside c.index.ensures in
    ap length c.as_slice-to.ensures ∙ as_many m h at c.requires c.index.result.now there c.in-Tick.to c.in-Tick.arrived c.in-Tick.farewells c.in-Tick.is

pub returns-in-Tick : goal.returns-in-Tick
returns-in-Tick c =
    let m = c.args.grid.now in
    let h = history_of c.args.chapter.now in
    let at = c.args.at in
    let k = entry_at m h at 6 (λ bad. omega (arith, bad)) c.requires in
    let inside : at - 1 < length h.entries = omega (arith, k.low, k.high) in
    let there : slice_get h.entries (at - 1) ≡ Some c.index.result.now = slice_get_read h.entries (length h.entries) (at - 1) c.index.result.now refl inside c.index.ensures in
    IfOk-weaker c.farewell_detail.result _ _
    (λ d is. tick_told m h at c.requires c.index.result.now there c.in-Tick.to c.in-Tick.arrived c.in-Tick.farewells c.as_slice-farewells.result.now c.as_slice-to.result.now c.in-Tick.is
    c.as_slice-to.ensures c.as_slice-farewells.ensures d is) c.farewell_detail.ensures

pub returns-in-Shut : goal.returns-in-Shut
returns-in-Shut c =
    let m = c.args.grid.now in
    let h = history_of c.args.chapter.now in
    let at = c.args.at in
    let k = entry_at m h at 6 (λ bad. omega (arith, bad)) c.requires in
    let inside : at - 1 < length h.entries = omega (arith, k.low, k.high) in
    let there : slice_get h.entries (at - 1) ≡ Some c.index.result.now = slice_get_read h.entries (length h.entries) (at - 1) c.index.result.now refl inside c.index.ensures in
    shut_told m h at c.requires c.index.result.now there c.in-Shut.robot c.in-Shut.farewell c.in-Shut.is c.shut_detail.result c.shut_detail.ensures
