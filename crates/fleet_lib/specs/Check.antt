-- What the word `check` prints.
use Rattle.std.specs.Prelude.{◌≡◌, ℕ, ◌==◌, ◌&&◌, Bool, true, false, if◌then◌else◌, List, [], ◌∷◌, ◌++◌, Option, Some, None, codes, decimal}
use Rattle.fleet_text.specs.declared.said.Complaint.TheVariants as complaint
use Rattle.fleet_text.specs.Complaint.{complaint_text}
use Rattle.fleet_plans.specs.declared.answer.PlanAnswer.{PlanAnswer}
use Rattle.fleet_plans.specs.declared.answer.PlanAnswer.TheVariants as answer
use Rattle.fleet_plans.specs.declared.claims.HeadFault.TheVariants.{Unlike}
use Rattle.fleet_plans.specs.declared.claims.HeadKey.TheVariants.{Agents}
use Rattle.fleet_plans.specs.declared.form.TextForm.{TextForm}
use Rattle.fleet_plans.specs.declared.judging.PlanFault.{PlanFault}
use Rattle.fleet_plans.specs.declared.goals.GoalFault.{GoalFault}
use Rattle.fleet_plans.specs.declared.goals.GoalFault.TheVariants.{NoGoals, OffStart, OffGoal}
use Rattle.fleet_plans.specs.declared.misspelt.Misspelt.{Misspelt}
use Rattle.fleet_plans.specs.Answer.{IsFormAnswer, fault_text, is_invalid, report_text}
use Rattle.fleet_plans.specs.Claims.{head_text}
use Rattle.fleet_plans.specs.Misspelt.{misspelt_of, misspelt_text}
use Rattle.fleet_plans.specs.Form.{form_of}
use Rattle.fleet_plans.specs.Reading.{head_by}
use Rattle.fleet_plans.specs.Told.{told_text}
use Rattle.fleet_conflicts.specs.declared.conflicts.Conflict.{Conflict}
use Rattle.fleet_conflicts.specs.Conflicts.{AreConflictsOf}
use Rattle.fleet_lib.specs.declared.check.PlanRules.{PlanRules}
use Rattle.fleet_lib.specs.Said.{Outcome}

-- a text for the output, with this status
abbrev pub good : List ℕ → ℕ → Outcome
good text status = record { output = text; status = status; complaint = [] }

-- a text for the error writer, with this status
abbrev pub refused : List ℕ → ℕ → Outcome
refused complaint status = record { output = []; status = status; complaint = complaint }

-- the line of a plan that is not valid
abbrev pub invalid_text : PlanFault → List ℕ
invalid_text fault = codes "invalid " ++ decimal fault.time ++ codes " " ++ fault_text fault.fault ++ codes "\n"

-- the line of a robot that does not begin on its start or end on its goal; a plan without goals is none that is asked for
abbrev pub goals_outcome : ℕ → GoalFault → Outcome
goals_outcome time NoGoals = refused (codes "fleet: plan goals\n") 6
goals_outcome time (OffStart robot) = good (codes "invalid 0 off-start " ++ (decimal robot ++ codes "\n")) 6
goals_outcome time (OffGoal robot) = good (codes "invalid " ++ (decimal time ++ (codes " off-goal " ++ (decimal robot ++ codes "\n")))) 6

-- a report with status 0; the first fault of a plan with 6; a text that is no plan, is cut, or says another plan in its head, with 6
-- and its line or its key; a scenario with 5, and a map with 4
abbrev pub outcome_of : PlanAnswer → Outcome
outcome_of (answer.Map fault) = refused (codes "fleet: " ++ complaint_text (complaint.Map fault) ++ codes "\n") 4
outcome_of (answer.Text line) = refused (codes "fleet: plan " ++ decimal line ++ codes "\n") 6
outcome_of (answer.Cut line) = refused (codes "fleet: plan " ++ decimal line ++ codes " cut\n") 6
outcome_of (answer.Scenario line) = refused (codes "fleet: scenario " ++ decimal line ++ codes "\n") 5
outcome_of (answer.Json fault) = refused (codes "fleet: plan " ++ told_text fault ++ codes "\n") 6
outcome_of (answer.Head fault) = refused (codes "fleet: plan " ++ head_text fault ++ codes "\n") 6
outcome_of (answer.Valid report) = good (report_text report) 0
outcome_of (answer.Invalid fault) = good (invalid_text fault) 6
outcome_of (answer.Goals time fault) = goals_outcome time fault

-- a line of the head whose key says nothing and is like one that does is said first
abbrev pub noted : Option Misspelt → Outcome → Outcome
noted None o = o
noted (Some m) o = record o { complaint = codes "fleet: " ++ (misspelt_text m ++ (codes "\n" ++ o.complaint)) }

-- the form in which a plan is read: the one that is named, or else that of the text
abbrev pub form_by : Option TextForm → List ℕ → TextForm
form_by None plan = form_of plan
form_by (Some form) plan = form

-- a valid plan with another number of robots than this is named as one whose head says another number
abbrev pub counted : ℕ → PlanAnswer → PlanAnswer
counted count (answer.Valid report) = if report.robots == count then answer.Valid report else answer.Head (Unlike Agents)
counted count a = a

-- where a number of robots is asked for
abbrev pub sized : Option ℕ → PlanAnswer → PlanAnswer
sized None a = a
sized (Some count) a = counted count a

-- a line for each conflict
abbrev pub conflict_text : Conflict → List ℕ
conflict_text c = codes "invalid " ++ (decimal c.time ++ (codes " " ++ (fault_text c.fault ++ codes "\n")))

-- the lines of conflicts
abbrev pub conflicts_text : List Conflict → List ℕ
conflicts_text [] = []
conflicts_text (c ∷ cs) = conflict_text c ++ conflicts_text cs

-- each conflict of the plan is said, with status 6
abbrev pub AreSaid : TextForm → List ℕ → List ℕ → Outcome → Type 0
AreSaid form map plan said = (conflicts : List Conflict) × AreConflictsOf form map plan conflicts × (said ≡ good (conflicts_text conflicts) 6)

-- all conflicts are said if this is asked, or else the answer
abbrev pub IsSaidIf : Bool → TextForm → List ℕ → List ℕ → PlanAnswer → Outcome → Type 0
IsSaidIf true form map plan a said = AreSaid form map plan said
IsSaidIf false form map plan a said = said ≡ outcome_of a

-- where all are asked for, each conflict of a plan that is not valid; else as the answer is
abbrev pub IsSaidOf : Bool → TextForm → List ℕ → List ℕ → PlanAnswer → Outcome → Type 0
IsSaidOf all form map plan a said = IsSaidIf (all && is_invalid a) form map plan a said

-- what is said of a plan that is read in this form
abbrev pub IsOutcomeBy : TextForm → PlanRules → Option (List ℕ) → List ℕ → List ℕ → Outcome → Type 0
IsOutcomeBy form rules scenario map plan o =
    (a : PlanAnswer) × (said : Outcome) × IsFormAnswer form rules.strict scenario map plan a × IsSaidOf rules.all form map plan (sized rules.agents a) said × (o ≡ noted (misspelt_of 1 (head_by form plan)) said)

-- what is said to a map and a plan, of which it may be asked that each robot ends on its goal, or does what a scenario says, and that there are
-- as many robots
abbrev pub IsCheckOutcome : PlanRules → Option (List ℕ) → List ℕ → List ℕ → Outcome → Type 0
IsCheckOutcome rules scenario map plan o = IsOutcomeBy (form_by rules.form plan) rules scenario map plan o
