use Rattle.std.proofs.Common.{◌∙◌, ◌++◌, List, ℕ, ap, string_bytes}
use Rattle.std.proofs.lemmas.Result.{on_ok_weaker}
use Rattle.fleet_survey.proofs.Pieces.{fewer-than-all}
use Rattle.fleet_survey.proofs.page.write_roomy_for.Goals as goal

pub returns-else-roomy_for-eq4294967295 : goal.returns-else-roomy_for-eq4294967295
returns-else-roomy_for-eq4294967295 c =
    on_ok_weaker c.write_line.result (λ h. h ∙ ap (λ (xs : List ℕ). string_bytes c.args.out.now ++ xs) (fewer-than-all c.args.roomy_for c.from.result c.if-roomy_for-eq4294967295.false c.from.ensures)) c.write_line.ensures
