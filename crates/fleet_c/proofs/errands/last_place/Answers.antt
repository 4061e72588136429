use Rattle.std.proofs.Common.{◌∙◌, ap, get_or}
use Rattle.fleet_c.specs.declared.chore.Chore.{Chore}
use Rattle.fleet_c.specs.inside.Runs.{farther}
use Rattle.fleet_c.proofs.Runs.{run-more}
use Rattle.fleet_c.proofs.errands.last_place.Goals as goal

abbrev none : Chore
none = record { number = 0; place = 0; client = 0; robot = 0; cell = 0 }

pub loop-at-preserved : goal.loop-at-preserved
loop-at-preserved c =
    c.farther-last.ensures ∙ ap (farther c.args.robot (get_or c.args.all.now c.loop-at.at none)) c.loop-at.invariant
    ∙ run-more (farther c.args.robot) c.args.all.now c.loop-at.at none 0 c.loop-at-test.true
