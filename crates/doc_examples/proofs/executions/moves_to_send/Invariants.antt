use Rattle.fleet_execution.specs.Kept.{desk}
use Rattle.fleet_execution.specs.Desk.{steps_left}
use Rattle.doc_examples.proofs.executions.moves_to_send.Given as goal

abbrev pub decreases-loop-begun : goal.decreases-loop-begun
decreases-loop-begun l = steps_left (desk l.run)
