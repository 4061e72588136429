-- What is said where something is told of a map, and where nothing is.
use Rattle.std.proofs.Common.{◌≡◌, ℕ, List, Option, [], refl, string_bytes}
use Rattle.std.proofs.lemmas.Result.{IfOk-weaker}
use Rattle.fleet_survey.specs.Answer.{IsTold}
use Rattle.fleet_survey.specs.declared.answer.SurveyForm.{SurveyForm}
use Rattle.fleet_lib.specs.Said.{Outcome}
use Rattle.fleet_lib.specs.Map.{IsMapOutcome, told, refused}
use Rattle.fleet_lib.proofs.map.answer_map.Goals as goal

outcome : (form : SurveyForm) (n : ℕ) (map : List ℕ) (cells : Option (List ℕ)) (text out : List ℕ) (o : Outcome) → IsTold form n map cells text → out ≡ text
    → o ≡ record { output = out; status = 0; complaint = [] } → IsMapOutcome form n map cells o
outcome form n map cells text out o is made said = told text is (rw (← made) said)

pub returns-in-Ok : goal.returns-in-Ok
returns-in-Ok c =
    IfOk-weaker c.printed.result _ _ (λ s e. outcome c.args.form c.args.robots c.args.map.now _ (string_bytes c.in-Ok.text) c.deref.result.now _ c.in-Ok.ensures.told c.deref.ensures e) c.printed.ensures

pub returns-in-Err : goal.returns-in-Err
returns-in-Err c = IfOk-weaker c.faulty.result _ _ (λ s e. refused c.in-Err.fault c.in-Err.ensures.refused e) c.faulty.ensures
