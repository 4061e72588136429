-- The four kinds of faults, one after the other.
use Rattle.fleet_conflicts.proofs.Parts.{add_all}
use Rattle.fleet_conflicts.proofs.robot.add_robot.Goals as goal

pub returns : goal.returns
returns c =
    add_all c.args.grid.now c.args.from.now c.args.to.now c.args.robot c.add_swapped.result c.args.faults.now.items c.add_off.new.faults.items c.add_far.new.faults.items c.add_shared.new.faults.items
    c.add_swapped.new.faults.items c.in_ok-add_off.ensures c.in_ok-add_far.ensures c.in_ok-add_shared.ensures c.add_swapped.ensures
