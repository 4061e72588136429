use Rattle.std.proofs.Common.{◌++◌, string_bytes}
use Rattle.std.specs.Prelude.{codes, decimal}
use Rattle.std.proofs.lemmas.Result.{on_ok_weaker}
use Rattle.fleet_survey.specs.Texts.{mouth_text}
use Rattle.fleet_survey.proofs.Pieces.{three-is}
use Rattle.fleet_survey.proofs.page.write_end_head.Goals as goal

pub returns : goal.returns
returns c =
    on_ok_weaker c.write.result
    (λ h. three-is (string_bytes c.args.out.now) (codes "dead_end mouth ") (mouth_text c.args.mouth) (codes " size " ++ decimal c.args.size) (string_bytes c.push_str.new.self) (string_bytes c.write_mouth.new.out) (string_bytes c.write.new.self)
    c.in_ok-push_str.ensures.bytes c.in_ok-write_mouth.ensures h) c.write.ensures.bytes
