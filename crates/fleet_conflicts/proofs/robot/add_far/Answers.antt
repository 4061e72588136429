-- A robot that neither stays nor crosses an edge.
use Rattle.fleet_check.specs.Fault.{Moves}
use Rattle.fleet_check.specs.declared.fault.StepFault.TheVariants.{NotAdjacent}
use Rattle.fleet_conflicts.proofs.Parts.{add_part}
use Rattle.fleet_conflicts.proofs.robot.add_far.Goals as goal

pub returns : goal.returns
returns c =
    add_part c.add_if.result (Moves c.args.grid.now c.args.from.now c.args.to.now c.args.robot) c.moves-far.result (NotAdjacent c.args.robot) c.args.faults.now.items c.add_if.new.faults.items c.moves-far.ensures c.add_if.ensures
