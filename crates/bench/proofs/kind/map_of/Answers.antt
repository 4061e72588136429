use Rattle.std.proofs.Common.{arith}
use Rattle.bench.proofs.kind.map_of.Goals as goal

pub push_reserved-requires : goal.push_reserved-requires
push_reserved-requires c = omega (arith, c.loop-cell.invariant.count, c.loop-cell.invariant.room, c.loop-cell-test.true)
