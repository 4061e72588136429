-- What is answered to a line.
use Rattle.std.specs.Prelude.{◌≡◌, ℕ, ◌<◌, ◌⊎◌, List, ◌++◌}
use Rattle.execution_law.specs.Change.{Reports}
use Rattle.fleet_execution.specs.Course.{Course}
use Rattle.fleet_execution.specs.Desk.{Desk}
use Rattle.fleet_execution.specs.Executes.{Executes}
use Rattle.fleet_execute.specs.declared.heard.Heard.{Heard}
use Rattle.fleet_execute.specs.declared.heard.Heard.TheVariants.{Nothing, Reached, Other}
use Rattle.fleet_execute.specs.declared.plan.Plan.{Plan}
use Rattle.fleet_execute.specs.Goes.{HasTurned}
use Rattle.fleet_execute.specs.Text.{refused_line, bad_line}

-- a robot that is under way has reached its cell, and the execution goes on; any other is refused
abbrev pub HasTaken : Plan → ℕ → Course → List ℕ → List ℕ → Desk → Type 0
HasTaken plan r o before after d =
    ((c : ℕ → ℕ) × Reports o.run r c × HasTurned plan (record o { run = record o.run { reached = c } }) before after d)
    ⊎ ((r < o.run.plan.robots → o.returned r ≡ o.run.reached r) × (after ≡ before ++ refused_line r) × Executes d o)

-- the text after the answer, and what is kept
abbrev pub HasAnswered : Plan → ℕ → Heard → Course → List ℕ → List ℕ → Desk → Type 0
HasAnswered plan number Nothing o before after d = (after ≡ before) × Executes d o
HasAnswered plan number Other o before after d = (after ≡ before ++ bad_line number) × Executes d o
HasAnswered plan number (Reached r) o before after d = HasTaken plan r o before after d
