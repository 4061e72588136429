-- What the shut of a robot answers.
use Rattle.std.specs.Prelude.{ℕ, ◌≡◌, ◌<◌, ◌≤◌, ◌↔◌, true, false, Option, Result, Err, IfOk}
use Rattle.fleet_history.specs.History.{robots, is_shut}
use Rattle.fleet_history.specs.Legal.{IsLegal}
use Rattle.fleet_core.specs.declared.faults.ShutFault.{ShutFault}
use Rattle.fleet_core.specs.declared.faults.ShutFault.TheVariants as fault
use Rattle.fleet_core.specs.Core.{World, Shuts, HasNoEntries}

-- the answer to the shut of a robot of this world: refused exactly for these reasons, or a farewell with which it is shut
pub record AnswersShut {A : Type 0} (w : World A) (robot : ℕ) (answer : Result (Option ℕ) ShutFault) : Type 0 where
  pub legal : IsLegal w.floor w.history
  pub no_robot : (answer ≡ Err fault.NoRobot) ↔ (robots w.history ≤ robot)
  pub already : (answer ≡ Err fault.Already) ↔ ((robot < robots w.history) × (is_shut w.history robot ≡ true))
  pub chapter_full : (answer ≡ Err fault.ChapterFull) ↔ ((robot < robots w.history) × (is_shut w.history robot ≡ false) × HasNoEntries w)
  pub ok : IfOk answer (λ farewell. (v : World A) × Shuts w robot farewell v)
