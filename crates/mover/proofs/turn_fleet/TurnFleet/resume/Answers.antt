use Rattle.std.proofs.Common.{arith}
use Rattle.fleet_state.proofs.Parts.{robots-few}
use Rattle.mover.proofs.turn_fleet.TurnFleet.resume.Goals as goal

pub overflow_cast-robots : goal.overflow_cast-robots
overflow_cast-robots g c = omega (arith, c.robots.ensures.count, robots-few c.requires.1)

pub open-requires : goal.open-requires
open-requires g c = omega (arith, c.robots.ensures.count, robots-few c.requires.1)
