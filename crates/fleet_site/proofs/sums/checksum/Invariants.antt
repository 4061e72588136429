use Rattle.std.proofs.Common.{◌≡◌, ◌<◌}
use Rattle.fleet_site.specs.Checksum.{modulus, sum_of}
use Rattle.fleet_site.proofs.sums.checksum.Given as goal

abbrev pub invariant-loop-cell : goal.invariant-loop-cell
invariant-loop-cell l = record { is : l.sum ≡ sum_of l.grid l.cell; below : l.sum < modulus }
