-- One turn less each time.
use Rattle.std.proofs.Common.{length}
use Rattle.live_vehicles.proofs.opening.+plan_all.Given as goal

abbrev pub decreases-plan_all : goal.decreases-plan_all
decreases-plan_all l = length l.known.now
