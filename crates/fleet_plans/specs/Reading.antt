-- The plan that a text has in a form, and why it has none.
use Rattle.std.specs.Prelude.{◌≡◌, ℕ, List, [], Option, None, Ok}
use Rattle.fleet_map.specs.Text.{lines_of}
use Rattle.fleet_plans.specs.declared.form.TextForm.{TextForm}
use Rattle.fleet_plans.specs.declared.form.TextForm.TheVariants.{Headed, Bare, Agents, Json, PlannerJson, Table, Schedule}
use Rattle.fleet_plans.specs.declared.runners.fault.RunnersKey.TheVariants.{ActualPaths, PlannerPaths}
use Rattle.fleet_plans.specs.declared.text.TextFault.{TextFault}
use Rattle.fleet_plans.specs.declared.text.TextFault.TheVariants as fault
use Rattle.fleet_plans.specs.Head.{blank_head}
use Rattle.fleet_plans.specs.Places.{places_of}
use Rattle.fleet_plans.specs.Text.{source_of, IsReadAs}
use Rattle.fleet_plans.specs.Agents.{IsAgentsPlan, IsNoAgents}
use Rattle.fleet_plans.specs.Runners.{IsRunnersPlan, IsRunnersFault}
use Rattle.fleet_plans.specs.Table.{table_of, IsTablePlan}
use Rattle.fleet_plans.specs.Schedule.{schedule_of, IsScheduled}
use Rattle.fleet_plans.specs.Shown.{FailsAt}

-- a text in this form has these goals and these placements; without a head it names no goals
abbrev pub IsPlanBy : TextForm → ℕ → ℕ → List ℕ → Option (List ℕ) → List (List ℕ) → Type 0
IsPlanBy Headed w h text goals places = IsReadAs w h (source_of w h text) goals places
IsPlanBy Bare w h text goals places = (goals ≡ None) × (places_of w h blank_head [] 1 (lines_of text) ≡ Ok places)
IsPlanBy Agents w h text goals places = (goals ≡ None) × IsAgentsPlan w h text places
IsPlanBy Json w h text goals places = IsRunnersPlan ActualPaths w h text goals places
IsPlanBy PlannerJson w h text goals places = IsRunnersPlan PlannerPaths w h text goals places
IsPlanBy Table w h text goals places = (goals ≡ None) × IsTablePlan w h text places
IsPlanBy Schedule w h text goals places = (goals ≡ None) × IsScheduled w h text places

-- why a text in this form is no plan, unless memory ran out
abbrev pub IsFaultBy : TextForm → ℕ → ℕ → List ℕ → TextFault → Type 0
IsFaultBy Headed w h text (fault.Lines f) = FailsAt f (source_of w h text)
IsFaultBy Headed w h text (fault.Json f) = ⊥
IsFaultBy Bare w h text (fault.Lines f) = FailsAt f (places_of w h blank_head [] 1 (lines_of text))
IsFaultBy Bare w h text (fault.Json f) = ⊥
IsFaultBy Agents w h text (fault.Lines f) = IsNoAgents w h text f
IsFaultBy Agents w h text (fault.Json f) = ⊥
IsFaultBy Json w h text (fault.Lines f) = ⊥
IsFaultBy Json w h text (fault.Json f) = IsRunnersFault ActualPaths w h text f
IsFaultBy PlannerJson w h text (fault.Lines f) = ⊥
IsFaultBy PlannerJson w h text (fault.Json f) = IsRunnersFault PlannerPaths w h text f
IsFaultBy Table w h text (fault.Lines f) = FailsAt f (table_of w h (lines_of text))
IsFaultBy Table w h text (fault.Json f) = ⊥
IsFaultBy Schedule w h text (fault.Lines f) = FailsAt f (schedule_of w h 1 (lines_of text))
IsFaultBy Schedule w h text (fault.Json f) = ⊥

-- the lines of the head of a text in this form
abbrev pub head_by : TextForm → List ℕ → List (List ℕ)
head_by Headed text = lines_of text
head_by Bare text = []
head_by Agents text = []
head_by Json text = []
head_by PlannerJson text = []
head_by Table text = []
head_by Schedule text = []
