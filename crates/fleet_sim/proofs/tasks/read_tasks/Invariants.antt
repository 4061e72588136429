use Rattle.std.proofs.Common.{length}
use Rattle.fleet_sim.proofs.tasks.read_tasks.Given as goal

abbrev pub decreases-loop-line : goal.decreases-loop-line
decreases-loop-line l = length l.rest
