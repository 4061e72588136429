-- What the word `explain` prints.
use Rattle.std.specs.Prelude.{◌≡◌, ℕ, List, ◌++◌, codes}
use Rattle.fleet_explain.specs.declared.explanation.Explanation.{Explanation}
use Rattle.fleet_explain.specs.declared.explanation.Explanation.TheVariants as explanation
use Rattle.fleet_explain.specs.Explained.{IsMapExplained, IsScriptExplained, IsTraceExplained}
use Rattle.fleet_explain.specs.Sentences.{sentence}
use Rattle.fleet_explain.specs.declared.plan.PlanExplanation.{PlanExplanation}
use Rattle.fleet_explain.specs.declared.plan.PlanExplanation.TheVariants as plan
use Rattle.fleet_explain.specs.Plans.{IsPlanExplained}
use Rattle.fleet_explain.specs.PlanSentences.{plan_sentence}
use Rattle.fleet_explain.specs.declared.head.HeadExplanation.{HeadExplanation}
use Rattle.fleet_explain.specs.declared.head.HeadExplanation.TheVariants as head
use Rattle.fleet_explain.specs.Heads.{IsHeadExplained}
use Rattle.fleet_explain.specs.HeadSentences.{head_sentence}
use Rattle.fleet_lib.specs.Said.{Outcome}
use Rattle.fleet_lib.specs.Check.{good}

-- the status of `errands`
abbrev pub status_of : Explanation → ℕ
status_of explanation.Fine = 0
status_of (explanation.Unserved n clients) = 0
status_of (explanation.Map f) = 4
status_of (explanation.Letter row column letter) = 4
status_of (explanation.Script n f) = 5
status_of (explanation.Start f width) = 5
status_of (explanation.NotJson position) = 6
status_of explanation.Version = 6
status_of (explanation.Form part) = 6
status_of (explanation.Illegal at rule kind detail) = 6

-- the sentence, and a line feed
abbrev pub outcome_of : Explanation → Outcome
outcome_of e = good (sentence e ++ codes "\n") (status_of e)

-- what is said of a map alone
abbrev pub IsMapSaid : List ℕ → Outcome → Type 0
IsMapSaid map o = (e : Explanation) × IsMapExplained map e × (o ≡ outcome_of e)

-- what is said of a map and a script
abbrev pub IsScriptSaid : List ℕ → List ℕ → Outcome → Type 0
IsScriptSaid map script o = (e : Explanation) × IsScriptExplained map script e × (o ≡ outcome_of e)

-- what is said of a map and a trace
abbrev pub IsTraceSaid : List ℕ → List ℕ → Outcome → Type 0
IsTraceSaid map trace o = (e : Explanation) × IsTraceExplained map trace e × (o ≡ outcome_of e)

-- the status of `fleet check`
abbrev pub plan_status : PlanExplanation → ℕ
plan_status plan.Fine = 0
plan_status (plan.Map e) = 4
plan_status (plan.Line n form) = 6
plan_status (plan.Cut n) = 6
plan_status (plan.Scenario n) = 5
plan_status (plan.NotJson stop) = 6
plan_status (plan.Json f) = 6
plan_status (plan.Head f) = 6
plan_status (plan.Placed m) = 6
plan_status (plan.Goals f) = 6

-- the sentence on a plan, and a line feed
abbrev pub plan_outcome : PlanExplanation → Outcome
plan_outcome e = good (plan_sentence e ++ codes "\n") (plan_status e)

-- what is said of a map and a plan
abbrev pub IsPlanSaid : List ℕ → List ℕ → Outcome → Type 0
IsPlanSaid map plan o = (e : PlanExplanation) × IsPlanExplained map plan e × (o ≡ plan_outcome e)

-- the status of `fleet talk`
abbrev pub head_status : HeadExplanation → ℕ
head_status head.Fine = 0
head_status head.Unplaced = 0
head_status (head.Map e) = 4
head_status (head.Line n f) = 5
head_status (head.Start f width) = 5

-- the sentence on header lines, and a line feed
abbrev pub head_outcome : HeadExplanation → Outcome
head_outcome e = good (head_sentence e ++ codes "\n") (head_status e)

-- what is said of a map and header lines
abbrev pub IsHeadSaid : List ℕ → List ℕ → Outcome → Type 0
IsHeadSaid map text o = (e : HeadExplanation) × IsHeadExplained map text e × (o ≡ head_outcome e)
