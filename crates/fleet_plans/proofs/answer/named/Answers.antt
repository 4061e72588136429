-- The fault, named by its line or its key.
use Rattle.std.proofs.Common.{◌≡◌, ◌≢◌, ℕ, List, sym, subst, ap, ◌∙◌}
use Rattle.fleet_plans.specs.declared.answer.PlanAnswer.{PlanAnswer}
use Rattle.fleet_plans.specs.declared.answer.PlanAnswer.TheVariants as answer
use Rattle.fleet_plans.specs.declared.fault.PlanTextFault.{PlanTextFault}
use Rattle.fleet_plans.specs.declared.fault.PlanTextFault.TheVariants.{Line}
use Rattle.fleet_plans.specs.declared.runners.fault.RunnersFault.{RunnersFault}
use Rattle.fleet_plans.specs.declared.runners.fault.RunnersFault.TheVariants as told
use Rattle.fleet_plans.specs.declared.text.TextFault.TheVariants as fault
use Rattle.fleet_plans.specs.Answer.{at_line, IsNamed}

line_named : (lines : List (List ℕ)) (f : PlanTextFault) (line : ℕ) (a : PlanAnswer) → f ≡ Line line → a ≡ at_line lines line → IsNamed lines (fault.Lines f) a
line_named lines f line a is same = subst (λ (x : PlanTextFault). IsNamed lines (fault.Lines x) a) (sym is) same

key_named : (lines : List (List ℕ)) (f named : RunnersFault) → named ≡ f → named ≢ told.NoMemory → IsNamed lines (fault.Json f) (answer.Json named)
key_named lines f named same other = ((λ is. other (same ∙ is)), ap (λ (x : RunnersFault). answer.Json x) same)
