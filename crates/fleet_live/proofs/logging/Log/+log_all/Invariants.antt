-- One chapter less each time.
use Rattle.std.proofs.Common.{length}
use Rattle.fleet_live.proofs.logging.Log.+log_all.Given as goal

abbrev pub decreases-log_all : goal.decreases-log_all
decreases-log_all g l = length l.handed_out.now
