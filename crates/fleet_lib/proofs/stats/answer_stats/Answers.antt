-- What is said where there are figures, and where there are none.
use Rattle.std.proofs.Common.{◌≡◌, ℕ, List, [], refl, map, string_bytes}
use Rattle.std.proofs.lemmas.Result.{IfOk-weaker}
use Rattle.fleet_stats.specs.Report.{IsStats}
use Rattle.fleet_stats.specs.declared.answer.StatsForm.{StatsForm}
use Rattle.fleet_lib.specs.Said.{Outcome}
use Rattle.fleet_lib.specs.Stats.{IsStatsOutcome, good, refused}
use Rattle.fleet_lib.proofs.stats.answer_stats.Goals as goal

told : (form : StatsForm) (names : List (List ℕ)) (bytes : List ℕ) (traces : List (List ℕ)) (text out : List ℕ) (o : Outcome) → IsStats form bytes traces text → out ≡ text
    → o ≡ record { output = out; status = 0; complaint = [] } → IsStatsOutcome form names bytes traces o
told form names bytes traces text out o made is said = good text made (rw (← is) said)

pub returns-in-Ok : goal.returns-in-Ok
returns-in-Ok c =
    IfOk-weaker c.good.result _ _ (λ s e. told c.args.form (map (λ name. string_bytes name) c.args.names.now) c.args.bytes.now (map (λ t. t.items) c.args.traces.now) (string_bytes c.in-Ok.text) c.as_str.result.now _ c.in-Ok.ensures.text c.as_str.ensures.value e) c.good.ensures

pub returns-in-Err : goal.returns-in-Err
returns-in-Err c = IfOk-weaker c.faulty.result _ _ (λ s e. refused c.in-Err.fault c.in-Err.ensures.fault e) c.faulty.ensures
