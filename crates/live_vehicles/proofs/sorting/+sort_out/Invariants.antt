-- One less each time.
use Rattle.std.proofs.Common.{length}
use Rattle.live_vehicles.proofs.sorting.+sort_out.Given as goal

abbrev pub decreases-sort_out : goal.decreases-sort_out
decreases-sort_out l = length l.stands.now
