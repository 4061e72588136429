use Rattle.std.proofs.Common.{length}
use Rattle.fleet_script.proofs.Bundles.{IsRead}
use Rattle.fleet_script.proofs.bundle.split_bundle.Given as goal

abbrev pub invariant-loop-line : goal.invariant-loop-line
invariant-loop-line l = IsRead l.bytes l.rest l.number

abbrev pub decreases-loop-line : goal.decreases-loop-line
decreases-loop-line l = length l.rest
