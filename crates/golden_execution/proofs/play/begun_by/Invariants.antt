use Rattle.fleet_execution.specs.Kept.{desk}
use Rattle.fleet_execution.specs.Desk.{steps_left}
use Rattle.golden_execution.proofs.play.begun_by.Given as goal

abbrev pub decreases-loop-one : goal.decreases-loop-one
decreases-loop-one l = steps_left (desk l.run)
