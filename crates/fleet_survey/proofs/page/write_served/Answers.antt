use Rattle.std.proofs.Common.{◌∙◌, ◌++◌, List, ℕ, ap, string_bytes}
use Rattle.std.proofs.lemmas.Result.{on_ok_weaker}
use Rattle.fleet_survey.proofs.Pieces.{served-fewer}
use Rattle.fleet_survey.proofs.page.write_served.Goals as goal

pub returns-else-robots : goal.returns-else-robots
returns-else-robots c =
    rw c.in-Some.is (on_ok_weaker c.write_line.result (λ h. h ∙ ap (λ (xs : List ℕ). string_bytes c.args.out.now ++ xs) (served-fewer c.in-Some.robots c.from.result c.if-robots.false c.from.ensures)) c.write_line.ensures)
