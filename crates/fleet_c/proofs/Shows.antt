-- A tick that was made shows what its entry has.
use Rattle.std.proofs.Common.{◌≡◌, ℕ, List, ◌++◌, length, map, drop, ◌≤◌, sym, refl, subst, arith, Result, Ok, Err}
use Rattle.std.specs.Prelude.{IfOk}
use Rattle.fleet_history.specs.declared.history.Arrival.{Arrival}
use Rattle.fleet_history.specs.declared.history.Bye.{Bye}
use Rattle.fleet_history.specs.declared.history.Entry.TheVariants as entry
use Rattle.fleet_history.specs.History.{place}
use Rattle.fleet_core.specs.Core.{World, Ticks}
use Rattle.fleet_core.specs.declared.faults.TickReport.{TickReport}
use Rattle.fleet_core.specs.declared.faults.TickFault.{TickFault}
use Rattle.fleet_core.specs.declared.faults.TickFault.TheVariants as tick
use Rattle.fleet_c.specs.declared.codes.TheConstants.{DONE}
use Rattle.fleet_c.specs.declared.report.Report.{Report}
use Rattle.fleet_c.specs.Answers.{IsTicked}
use Rattle.fleet_c.specs.Batches.{Lists, HavePlaces, IsLast, AreShown}
use Rattle.fleet_c.specs.Codes.{tick_code}
use Rattle.fleet_c.specs.Forms.{arrival_of, report_of}
use Rattle.fleet_c.proofs.Listed.{arrived-few, farewells-few}

is-done : {A : Type 0} (w n : World A) (code : ℕ) (report : Report) (answer : Result TickReport TickFault) → code ≡ tick_code answer → code ≡ DONE
    → IfOk answer (λ did. Ticks w did n × (report ≡ report_of did)) → (did : TickReport) × Ticks w did n
is-done w n code report (Ok did) is done t = (did, t.0)
is-done w n code report (Err tick.ClockSpent) is done t = absurd (omega (arith, is, done))
is-done w n code report (Err tick.ChapterFull) is done t = absurd (omega (arith, is, done))
is-done w n code report (Err tick.NoMemory) is done t = absurd (omega (arith, is, done))

pub shown : {A : Type 0} (w n : World A) (code : ℕ) (report : Report) (before after : Lists) → HavePlaces w before → IsTicked w code report n → code ≡ DONE → after.cells ≡ place n.history
    → ((to : List ℕ) (arrived : List Arrival) (said : List Bye) → IsLast n (entry.Tick to arrived said) → length arrived ≤ length before.arrivals → length said ≤ length before.farewells
    → after.arrivals ≡ map (arrival_of after.cells) arrived ++ drop (length arrived) before.arrivals)
    → ((to : List ℕ) (arrived : List Arrival) (said : List Bye) → IsLast n (entry.Tick to arrived said) → length arrived ≤ length before.arrivals → length said ≤ length before.farewells
    → after.farewells ≡ map (λ b. b.robot) said ++ drop (length said) before.farewells)
    → AreShown w before after n
shown w n code report before after places is done cells arrivals farewells =
    let t = (is-done w n code report is.answer is.code_is done is.ticks).1 in
    let few : length t.arrived ≤ length before.arrivals = subst (λ k. length t.arrived ≤ k) (sym places.arrivals) (arrived-few w.floor w.history t.to t.arrived t.farewells t.fits) in
    let left : length t.farewells ≤ length before.farewells = subst (λ k. length t.farewells ≤ k) (sym places.farewells) (farewells-few w.floor w.history t.to t.arrived t.farewells t.fits) in
    let last : IsLast n (entry.Tick t.to t.arrived t.farewells) = subst (λ x. IsLast x (entry.Tick t.to t.arrived t.farewells)) (sym t.world) (w.history.entries, refl) in
    record {
      to = t.to;
      arrived = t.arrived;
      farewells = t.farewells;
      entry = t.world;
      fit = (few, left);
      cells_are = cells;
      arrivals_are = arrivals t.to t.arrived t.farewells last few left;
      farewells_are = farewells t.to t.arrived t.farewells last few left;
    }
