-- What is wrong with a plan.
use Rattle.std.specs.Prelude.{◌≡◌, ℕ, List, Ok}
use Rattle.fleet_map.specs.Grammar.{Map, map_of}
use Rattle.fleet_plans.specs.declared.answer.PlanAnswer.{PlanAnswer}
use Rattle.fleet_plans.specs.declared.answer.PlanAnswer.TheVariants as answer
use Rattle.fleet_plans.specs.declared.form.TextForm.{TextForm}
use Rattle.fleet_plans.specs.declared.judging.PlanFault.{PlanFault}
use Rattle.fleet_plans.specs.declared.runners.fault.RunnersFault.{RunnersFault}
use Rattle.fleet_plans.specs.declared.runners.fault.RunnersFault.TheVariants as runners
use Rattle.fleet_plans.specs.Form.{form_of}
use Rattle.fleet_plans.specs.Answer.{IsPlanAnswer}
use Rattle.fleet_explain.specs.declared.explanation.Explanation.{Explanation}
use Rattle.fleet_explain.specs.declared.explanation.Explanation.TheVariants as explanation
use Rattle.fleet_explain.specs.declared.position.Position.{Position}
use Rattle.fleet_explain.specs.declared.plan.PlanExplanation.{PlanExplanation}
use Rattle.fleet_explain.specs.declared.plan.PlanExplanation.TheVariants as plan
use Rattle.fleet_explain.specs.declared.plan.Misplaced.{Misplaced}
use Rattle.fleet_explain.specs.Explained.{IsNoMap}

-- the fault of a plan, on a map of this width
abbrev pub misplaced : ℕ → PlanFault → Misplaced
misplaced width f = record { time = f.time; fault = f.fault; width = width; from = f.from; to = f.to }

-- what is said of a text that begins as JSON and is not a plan: where it is no JSON, the place at which its reader stopped, as the reader says
abbrev pub IsJsonSaid : RunnersFault → PlanExplanation → Type 0
IsJsonSaid runners.NotJson e = (stop : Position) × (e ≡ plan.NotJson stop)
IsJsonSaid (runners.Key key) e = e ≡ plan.Json (runners.Key key)
IsJsonSaid (runners.Item key robot) e = e ≡ plan.Json (runners.Item key robot)
IsJsonSaid runners.NoMemory e = e ≡ plan.Json runners.NoMemory

-- what is said of a text in this form, on a map of this width, if this is the answer on it
abbrev pub IsSaid : TextForm → ℕ → PlanAnswer → PlanExplanation → Type 0
IsSaid form width (answer.Map f) e = e ≡ plan.Map (explanation.Map f)
IsSaid form width (answer.Text n) e = e ≡ plan.Line n form
IsSaid form width (answer.Cut n) e = e ≡ plan.Cut n
IsSaid form width (answer.Scenario n) e = e ≡ plan.Scenario n
IsSaid form width (answer.Json f) e = IsJsonSaid f e
IsSaid form width (answer.Head f) e = e ≡ plan.Head f
IsSaid form width (answer.Valid report) e = e ≡ plan.Fine
IsSaid form width (answer.Invalid f) e = e ≡ plan.Placed (misplaced width f)
IsSaid form width (answer.Goals time f) e = e ≡ plan.Goals f

-- what is first wrong with a map and a plan on it: the map comes first
pub data IsPlanExplained (map text : List ℕ) (e : PlanExplanation) : Type 0 where
  no_map : (x : Explanation) → IsNoMap map x → e ≡ plan.Map x → IsPlanExplained map text e
  on_map : (m : Map) (a : PlanAnswer) → map_of map ≡ Ok m → IsPlanAnswer map text a → IsSaid (form_of text) m.width a e → IsPlanExplained map text e
