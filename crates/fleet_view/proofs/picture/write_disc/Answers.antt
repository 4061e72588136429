-- A disc, piece by piece.
use Rattle.std.proofs.Common.{decimal, string_bytes}
use Rattle.std.proofs.lemmas.Result.{on_ok_weaker}
use Rattle.fleet_view.specs.declared.shapes.TheConstants.{DISC, NUMBER, SHAPE_END}
use Rattle.fleet_view.proofs.Pieces.{disc-is}
use Rattle.fleet_view.proofs.picture.write_disc.Goals as goal

pub returns : goal.returns
returns c =
    on_ok_weaker c.write.result
    (λ h. rw (← c.hue_of-hue.ensures) (disc-is (string_bytes c.args.out.now) DISC.now (decimal c.hue_of-hue.result) NUMBER.now (decimal c.args.robot) SHAPE_END.now _ h))
    c.write.ensures.bytes
