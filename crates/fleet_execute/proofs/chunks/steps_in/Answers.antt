-- There is a placement at least.
use Rattle.std.proofs.Common.{length, arith}
use Rattle.fleet_execute.proofs.Lengths.{one_fits}
use Rattle.fleet_execute.proofs.chunks.steps_in.Goals as goal

pub overflow_sub-result : goal.overflow_sub-result
overflow_sub-result c = omega (arith, one_fits (length c.args.cells.now) c.args.robots c.requires.some c.requires.whole)
