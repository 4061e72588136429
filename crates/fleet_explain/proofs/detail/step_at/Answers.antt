-- The tick at the place, and its step.
use Rattle.std.proofs.Common.{◌≡◌, ◌-◌, ◌<◌, Some, length, refl, arith}
use Rattle.std.specs.Prelude.{slice_get}
use Rattle.std.proofs.lemmas.Option.{slice_get_read}
use Rattle.std.proofs.lemmas.Result.{IfOk-weaker}
use Rattle.fleet_history.specs.History.{history_of}
use Rattle.fleet_explain.proofs.Stepped.{tick_at, told}
use Rattle.fleet_explain.proofs.detail.step_at.Goals as goal

pub step_detail-requires-clause-placed : goal.step_detail-requires-clause-placed
step_detail-requires-clause-placed c = (tick_at c.args.grid.now (history_of c.args.chapter.now) c.args.at 4 refl c.requires).placed

pub returns-in-Tick : goal.returns-in-Tick
returns-in-Tick c =
    let m = c.args.grid.now in
    let h = history_of c.args.chapter.now in
    let at = c.args.at in
    let four : 4 ≡ 4 = refl in
    let t = tick_at m h at 4 four c.requires in
    let inside : at - 1 < length h.entries = omega (arith, t.low, t.high) in
    let there : slice_get h.entries (at - 1) ≡ Some c.index.result.now = slice_get_read h.entries (length h.entries) (at - 1) c.index.result.now refl inside c.index.ensures in
    IfOk-weaker c.step_detail.result _ _
    (λ d is. told m h at 4 four c.index.result.now c.in-Tick.to c.in-Tick.arrived c.in-Tick.farewells c.as_slice.result.now there c.in-Tick.is c.as_slice.ensures c.requires d is) c.step_detail.ensures
