-- What a tick and a shut answer: refused exactly for these reasons, in this order, or made.
use Rattle.std.specs.Prelude.{⊤, ℕ, ◌≡◌, ◌<◌, ◌≤◌, ◌↔◌, true, false, Option, Result, Err, IfOk, OnOk, OnErr, All}
use Rattle.fleet_history.specs.declared.history.Entry.{Entry}
use Rattle.fleet_history.specs.declared.history.Entry.TheVariants.{Take, Tick, Shut}
use Rattle.fleet_history.specs.History.{History, robots, clock, is_shut}
use Rattle.fleet_history.specs.Legal.{arrival_law, farewell_law}
use Rattle.fleet_core.specs.declared.faults.TickFault.{TickFault}
use Rattle.fleet_core.specs.declared.faults.TickFault.TheVariants as tick_fault
use Rattle.fleet_core.specs.declared.faults.ShutFault.{ShutFault}
use Rattle.fleet_core.specs.declared.faults.ShutFault.TheVariants as shut_fault
use Rattle.fleet_core.specs.declared.faults.TickReport.{TickReport}
use Rattle.fleet_core.specs.Core.{World, Ticks, Shuts, HasEntries, HasNoEntries}

-- the answer to a tick of world w, which is v afterwards
pub record AnswersTick {A : Type 0} (w : World A) (answer : Result TickReport TickFault) (v : World A) : Type 0 where
  pub clock_spent : (answer ≡ Err tick_fault.ClockSpent) ↔ (clock w.history ≡ w.limits.clock)
  pub chapter_full : (answer ≡ Err tick_fault.ChapterFull) ↔ ((clock w.history < w.limits.clock) × HasNoEntries w)
  pub early : OnOk answer (clock w.history < w.limits.clock)
  pub entries : OnOk answer (HasEntries w)
  pub ok : IfOk answer (λ report. Ticks w report v)
  pub err : OnErr answer (v ≡ w)

-- each arrival and farewell of a tick after the history has the least stamp that its robot's law allows
abbrev pub HasLeastStamps : {A : Type 0} → History A → Entry A → Type 0
HasLeastStamps h (Tick to arrived farewells) =
    All (λ a. a.stamp ≡ (arrival_law h a.robot).low) arrived × All (λ b. b.stamp ≡ (farewell_law h b.robot).low) farewells
HasLeastStamps h (Take client order verdict) = ⊤
HasLeastStamps h (Shut robot farewell) = ⊤

-- the answer to the shut of a robot of world w, which is v afterwards
pub record AnswersShut {A : Type 0} (w : World A) (robot : ℕ) (answer : Result (Option ℕ) ShutFault) (v : World A) : Type 0 where
  pub no_robot : (answer ≡ Err shut_fault.NoRobot) ↔ (robots w.history ≤ robot)
  pub already : (answer ≡ Err shut_fault.Already) ↔ ((robot < robots w.history) × (is_shut w.history robot ≡ true))
  pub chapter_full : (answer ≡ Err shut_fault.ChapterFull) ↔ ((robot < robots w.history) × (is_shut w.history robot ≡ false) × HasNoEntries w)
  pub entries : OnOk answer (HasEntries w)
  pub ok : IfOk answer (λ farewell. Shuts w robot farewell v)
  pub err : OnErr answer (v ≡ w)
