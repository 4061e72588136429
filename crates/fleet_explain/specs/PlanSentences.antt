-- What is wrong with a plan, as sentences.
use Rattle.std.specs.Prelude.{ℕ, List, ◌++◌, codes, decimal, ◌==◌, if◌then◌else◌}
use Rattle.fleet_check.specs.declared.fault.StepFault.TheVariants as step
use Rattle.fleet_check.specs.declared.fault.StepFault.{StepFault}
use Rattle.fleet_plans.specs.declared.claims.HeadFault.{HeadFault}
use Rattle.fleet_plans.specs.declared.claims.HeadFault.TheVariants as head
use Rattle.fleet_plans.specs.declared.form.TextForm.{TextForm}
use Rattle.fleet_plans.specs.declared.form.TextForm.TheVariants as form
use Rattle.fleet_plans.specs.declared.goals.GoalFault.{GoalFault}
use Rattle.fleet_plans.specs.declared.goals.GoalFault.TheVariants as goal
use Rattle.fleet_plans.specs.declared.runners.fault.RunnersFault.{RunnersFault}
use Rattle.fleet_plans.specs.declared.runners.fault.RunnersFault.TheVariants as runners
use Rattle.fleet_plans.specs.Claims as claims
use Rattle.fleet_plans.specs.Told as told
use Rattle.fleet_explain.specs.declared.plan.PlanExplanation.{PlanExplanation}
use Rattle.fleet_explain.specs.declared.plan.PlanExplanation.TheVariants as plan
use Rattle.fleet_explain.specs.declared.plan.Misplaced.{Misplaced}
use Rattle.fleet_explain.specs.Sentences.{cell_text, sentence}

-- a cell of a plan on a map of this width
abbrev pub place_text : ℕ → ℕ → List ℕ
place_text width cell = if cell == 4294967295 then codes "a cell outside of the map" else cell_text width cell

-- what is wrong with a placement, or with the step to it: the cells are those of the first robot that is named
abbrev pub placed_text : StepFault → ℕ → ℕ → ℕ → List ℕ
placed_text step.Length width from to = codes "it has not a cell for each robot"
placed_text (step.OffFloor r) width from to = codes "robot " ++ (decimal r ++ (codes " is on " ++ (place_text width to ++ codes ", which is no floor")))
placed_text (step.NotAdjacent r) width from to = codes "robot " ++ (decimal r ++ (codes " comes from " ++ (place_text width from ++ (codes " to " ++ (place_text width to ++ codes ", which is not next to it")))))
placed_text step.NoMemory width from to = codes "out of memory"
placed_text (step.Vertex i j) width from to = codes "robots " ++ (decimal i ++ (codes " and " ++ (decimal j ++ (codes " are both on " ++ place_text width to))))
placed_text (step.Swap i j) width from to = codes "robots " ++ (decimal i ++ (codes " and " ++ (decimal j ++ (codes " exchange " ++ (place_text width from ++ (codes " and " ++ place_text width to))))))

-- at what time a plan has its first fault, and which
abbrev pub misplaced_text : Misplaced → List ℕ
misplaced_text m = codes "time " ++ (decimal m.time ++ (codes ": " ++ placed_text m.fault m.width m.from m.to))

-- which line a text in this form has there
abbrev pub wanted_text : TextForm → List ℕ
wanted_text form.Headed = codes "is neither `KEY=VALUE` before `solution=`, nor the next line of cells, `TIME:(X,Y),..`, or of moves, `udlrw`, after it"
wanted_text form.Bare = codes "is not that of the next time, `TIME:(X,Y),..`"
wanted_text form.Agents = codes "is not that of the next robot, `Agent K: (ROW,COLUMN)->..`"
wanted_text form.Json = codes "is not allowed where it is"
wanted_text form.PlannerJson = codes "is not allowed where it is"
wanted_text form.Schedule = codes "is none of `agentK:`, `- x: COLUMN`, `y: ROW` and `t: TIME`, or not that of the next cell"
wanted_text form.Table = codes "is not that of the next cell, `AGENT,TIME,ROW,COLUMN`, after `agent,time,row,column`"

-- what is wrong with a plan in JSON
abbrev pub runners_text : RunnersFault → List ℕ
runners_text runners.NotJson = codes "it is not JSON"
runners_text (runners.Key key) = codes "`" ++ (told.key_text key ++ codes "` is missing, or what it has is not in its form")
runners_text (runners.Item key robot) = codes "under `" ++ (told.key_text key ++ (codes "`, the item of robot " ++ (decimal robot ++ codes " is not in its form")))
runners_text runners.NoMemory = codes "out of memory"

-- what is wrong with the head of a plan
abbrev pub head_text : HeadFault → List ℕ
head_text (head.Unlike key) = codes "the number that its head says under `" ++ (claims.key_text key ++ codes "` is not that of the plan")
head_text (head.Cut n) = codes "it ends before the makespan that its head says: line " ++ (decimal n ++ codes " is missing")

-- why the robots do not do what is asked of them
abbrev pub goal_text : GoalFault → List ℕ
goal_text goal.NoGoals = codes "it names no goals"
goal_text (goal.OffStart robot) = codes "robot " ++ (decimal robot ++ codes " does not begin on its start")
goal_text (goal.OffGoal robot) = codes "robot " ++ (decimal robot ++ codes " does not end on its goal")

-- what is wrong with a map and a plan on it
abbrev pub plan_sentence : PlanExplanation → List ℕ
plan_sentence plan.Fine = codes "all in order"
plan_sentence (plan.Map e) = sentence e
plan_sentence (plan.Line n form) = codes "the plan: line " ++ (decimal n ++ (codes " " ++ wanted_text form))
plan_sentence (plan.Cut n) = codes "the plan: the text ends too early, line " ++ (decimal n ++ codes " is missing")
plan_sentence (plan.Scenario n) = codes "the scenario: line " ++ (decimal n ++ codes " is not allowed where it is")
plan_sentence (plan.NotJson stop) = codes "the plan: it is not UTF-8, or not JSON, or nested deeper than 127: its reader stopped at line " ++ (decimal stop.line ++ (codes ", column " ++ decimal stop.column))
plan_sentence (plan.Json f) = codes "the plan: " ++ runners_text f
plan_sentence (plan.Head f) = codes "the plan: " ++ head_text f
plan_sentence (plan.Placed m) = codes "the plan: " ++ misplaced_text m
plan_sentence (plan.Goals f) = codes "the plan: " ++ goal_text f
