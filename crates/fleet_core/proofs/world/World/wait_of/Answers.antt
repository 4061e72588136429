-- The wait of the robot, as the core says.
use Rattle.fleet_core.proofs.world.World.wait_of.Goals as goal

pub returns-clause-wait : goal.returns-clause-wait
returns-clause-wait g c = c.wait_of.ensures.wait

pub returns-clause-bounded : goal.returns-clause-bounded
returns-clause-bounded g c = c.wait_of.ensures.bounded
