use Rattle.std.proofs.Common.{arith}
use Rattle.mover.proofs.turn_fleet.TurnFleet.open.Goals as goal

pub invariant_of-result : goal.invariant_of-result
invariant_of-result g c = omega (arith, c.in_ok-planner.ensures.planner.asked, c.in_ok-changes.ensures.capacity)

pub returns : goal.returns
returns g c = record { planner = c.in_ok-planner.ensures; keeps = c.new.ensures.keeps c.args.grid.now }
