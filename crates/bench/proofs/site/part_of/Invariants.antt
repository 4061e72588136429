use Rattle.std.proofs.Common.{◌<◌, vec_len}
use Rattle.bench.specs.Fleet.{AreWithin}
use Rattle.bench.proofs.site.part_of.Given as goal

abbrev pub invariant-loop-cell : goal.invariant-loop-cell
invariant-loop-cell l = record { some : 0 < vec_len l.cells; within : AreWithin l.grid l.home l.cells.items }
