use Rattle.std.proofs.Common.{string_bytes}
use Rattle.std.specs.Prelude.{codes}
use Rattle.std.proofs.lemmas.Result.{on_ok_weaker}
use Rattle.fleet_survey.specs.Texts.{condition}
use Rattle.fleet_survey.proofs.Pieces.{twice-is}
use Rattle.fleet_survey.proofs.page.write_promises.Goals as goal

pub returns : goal.returns
returns c =
    on_ok_weaker c.write.result
    (λ h. twice-is (string_bytes c.args.out.now) (string_bytes c.write.new.self) (codes "promise 2, the robot that has waited longest comes nearer at every tick: ") (codes "\npromise 3, every wait is below a bound: ") (codes "\n") c.condition-when.result.now
    (condition c.args.standing) c.condition-when.ensures h) c.write.ensures.bytes
