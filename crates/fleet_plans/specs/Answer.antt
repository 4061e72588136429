-- What there is to say of a map and a plan's text, and what it prints as.
use Rattle.std.specs.Prelude.{◌≡◌, ◌≢◌, ℕ, Bool, true, false, List, [], ◌++◌, length, Option, Some, None, Ok, Err, codes, decimal, nat_lt, if◌then◌else◌}
use Rattle.fleet_map.specs.declared.fault.MapFault.{MapFault}
use Rattle.fleet_map.specs.Grammar.{Map, map_of}
use Rattle.fleet_map.specs.Text.{lines_of}
use Rattle.fleet_grid.specs.Floor.{Floor, floor_of}
use Rattle.fleet_check.specs.declared.fault.StepFault.{StepFault}
use Rattle.fleet_check.specs.declared.fault.StepFault.TheVariants.{Length, OffFloor, NotAdjacent, NoMemory, Vertex, Swap}
use Rattle.fleet_plans.specs.declared.answer.PlanAnswer.{PlanAnswer}
use Rattle.fleet_plans.specs.declared.answer.PlanAnswer.TheVariants as answer
use Rattle.fleet_plans.specs.declared.claims.HeadFault.{HeadFault}
use Rattle.fleet_plans.specs.declared.goals.GoalFault.{GoalFault}
use Rattle.fleet_plans.specs.declared.form.TextForm.{TextForm}
use Rattle.fleet_plans.specs.declared.judging.PlanFault.{PlanFault}
use Rattle.fleet_plans.specs.declared.report.PlanReport.{PlanReport}
use Rattle.fleet_plans.specs.declared.fault.PlanTextFault.TheVariants as line_fault
use Rattle.fleet_plans.specs.declared.runners.fault.RunnersFault.TheVariants as told
use Rattle.fleet_plans.specs.declared.text.TextFault.{TextFault}
use Rattle.fleet_plans.specs.declared.text.TextFault.TheVariants as fault
use Rattle.fleet_plans.specs.Valid.{place_at, last_of, IsValidPlan, IsPlanFault, HasCells}
use Rattle.fleet_plans.specs.Report.{IsReportOf}
use Rattle.fleet_plans.specs.Claims.{unmet}
use Rattle.fleet_plans.specs.Scenario.{scenario_of, Trips}
use Rattle.fleet_plans.specs.Goals.{Asked, Nothing, OwnGoals, OfTrips, undone}
use Rattle.fleet_plans.specs.Form.{form_of}
use Rattle.fleet_plans.specs.Reading.{IsPlanBy, IsFaultBy, head_by}

-- ---- a text that is no plan

-- a text without the line that is at fault is cut
abbrev pub at_line : List (List ℕ) → ℕ → PlanAnswer
at_line lines line = if nat_lt (length lines) line then answer.Cut line else answer.Text line

-- the fault is named by its line or its key
abbrev pub IsNamed : List (List ℕ) → TextFault → PlanAnswer → Type 0
IsNamed lines (fault.Lines line_fault.NoMemory) a = ⊥
IsNamed lines (fault.Lines (line_fault.Line line)) a = a ≡ at_line lines line
IsNamed lines (fault.Json f) a = (f ≢ told.NoMemory) × (a ≡ answer.Json f)

-- whether a plan was read, and is not valid
abbrev pub is_invalid : PlanAnswer → Bool
is_invalid (answer.Invalid f) = true
is_invalid a = false

-- ---- a plan that is free of conflicts

-- a valid plan, or the robot that does not do what is asked of it
abbrev pub or_off_goal : PlanReport → Option GoalFault → PlanAnswer
or_off_goal r None = answer.Valid r
or_off_goal r (Some f) = answer.Goals r.steps f

-- what the head says that is not so, or else the same
abbrev pub or_unmet : PlanReport → Option HeadFault → Option GoalFault → PlanAnswer
or_unmet r None goal = or_off_goal r goal
or_unmet r (Some f) goal = answer.Head f

-- what its head says comes first, then what is asked of its robots
abbrev pub valid_answer : Asked → List (List ℕ) → Option (List ℕ) → List ℕ → List ℕ → PlanReport → PlanAnswer
valid_answer asked head goals first last r = or_unmet r (unmet head r) (undone asked goals first last)

-- ---- a plan

-- a plan on a map is free of conflicts, with this report, or this is its first fault
pub data IsJudged (m : Floor) (asked : Asked) (head : List (List ℕ)) (goals : Option (List ℕ)) (places : List (List ℕ)) (a : PlanAnswer) : Type 0 where
  free : (report : PlanReport) → IsValidPlan m places → IsReportOf goals places report
      → a ≡ valid_answer asked head goals (place_at places 0) (last_of places) report → IsJudged m asked head goals places a
  conflict : (fault : PlanFault) → IsPlanFault m places fault.time fault.fault → HasCells places fault → a ≡ answer.Invalid fault → IsJudged m asked head goals places a

-- the text, read in this form, first, then the plan
pub data IsTextAnswer (asked : Asked) (m : Map) (form : TextForm) (text : List ℕ) (a : PlanAnswer) : Type 0 where
  no_plan : (fault : TextFault) → IsFaultBy form m.width m.height text fault → IsNamed (lines_of text) fault a → IsTextAnswer asked m form text a
  judged : (goals : Option (List ℕ)) (places : List (List ℕ)) → IsPlanBy form m.width m.height text goals places
      → IsJudged (floor_of m.height m.width m.cells) asked (head_by form text) goals places a → IsTextAnswer asked m form text a

-- the map before both
pub data IsAnswerTo (asked : Asked) (map : List ℕ) (form : TextForm) (text : List ℕ) (a : PlanAnswer) : Type 0 where
  no_map : (fault : MapFault) → map_of map ≡ Err fault → a ≡ answer.Map fault → IsAnswerTo asked map form text a
  on_map : (m : Map) → map_of map ≡ Ok m → IsTextAnswer asked m form text a → IsAnswerTo asked map form text a

-- nothing is asked of the robots' last cells; the text says its form
abbrev pub IsPlanAnswer : List ℕ → List ℕ → PlanAnswer → Type 0
IsPlanAnswer map text a = IsAnswerTo Nothing map (form_of text) text a

-- each robot has to end on its goal
abbrev pub IsSolutionAnswer : List ℕ → List ℕ → PlanAnswer → Type 0
IsSolutionAnswer map text a = IsAnswerTo OwnGoals map (form_of text) text a

-- the scenario, then the plan, whose robots have to begin and end as the scenario says
pub data IsOnScenario (m : Map) (scenario : List ℕ) (form : TextForm) (text : List ℕ) (a : PlanAnswer) : Type 0 where
  without_trips : (line : ℕ) → scenario_of m.width m.height (lines_of scenario) ≡ Err line → a ≡ answer.Scenario line → IsOnScenario m scenario form text a
  with_trips : (trips : Trips) → scenario_of m.width m.height (lines_of scenario) ≡ Ok trips → IsTextAnswer (OfTrips trips) m form text a → IsOnScenario m scenario form text a

-- the map before both
pub data IsTripsAnswer (map scenario : List ℕ) (form : TextForm) (text : List ℕ) (a : PlanAnswer) : Type 0 where
  without_map : (fault : MapFault) → map_of map ≡ Err fault → a ≡ answer.Map fault → IsTripsAnswer map scenario form text a
  with_map : (m : Map) → map_of map ≡ Ok m → IsOnScenario m scenario form text a → IsTripsAnswer map scenario form text a

-- the text says its form
abbrev pub IsScenarioAnswer : List ℕ → List ℕ → List ℕ → PlanAnswer → Type 0
IsScenarioAnswer map scenario text a = IsTripsAnswer map scenario (form_of text) text a

-- a form is named; a scenario asks for more than the goals that the plan names
abbrev pub IsFormAnswer : TextForm → Bool → Option (List ℕ) → List ℕ → List ℕ → PlanAnswer → Type 0
IsFormAnswer form strict (Some scenario) map text a = IsTripsAnswer map scenario form text a
IsFormAnswer form false None map text a = IsAnswerTo Nothing map form text a
IsFormAnswer form true None map text a = IsAnswerTo OwnGoals map form text a

-- the kind of a fault, with its robots
abbrev pub fault_text : StepFault → List ℕ
fault_text Length = codes "length"
fault_text (OffFloor r) = codes "off-floor " ++ decimal r
fault_text (NotAdjacent r) = codes "not-adjacent " ++ decimal r
fault_text NoMemory = codes "no-memory"
fault_text (Vertex i j) = codes "vertex " ++ decimal i ++ codes " " ++ decimal j
fault_text (Swap i j) = codes "swap " ++ decimal i ++ codes " " ++ decimal j

-- how many robots end on their goals; nothing where the plan names no goals
abbrev pub goals_text : Option ℕ → List ℕ
goals_text None = []
goals_text (Some reached) = codes "on-goals " ++ decimal reached ++ codes "\n"

-- a valid plan: its steps, robots, costs and goals
abbrev pub report_text : PlanReport → List ℕ
report_text r =
    codes "valid " ++ decimal r.steps ++ codes " " ++ decimal r.robots
    ++ codes "\nsum-of-costs " ++ decimal r.sum_of_costs
    ++ codes "\nmakespan " ++ decimal r.makespan
    ++ codes "\n" ++ goals_text r.on_goals
