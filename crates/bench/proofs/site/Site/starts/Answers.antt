-- The starts with one more.
use Rattle.std.proofs.Common.{◌≤◌, ℕ, sym, subst, arith}
use Rattle.bench.proofs.site.Site.starts.Goals as goal

pub add_start-requires-clause-within : goal.add_start-requires-clause-within
add_start-requires-clause-within c = c.cell-cell.ensures

pub add_start-requires-clause-starts : goal.add_start-requires-clause-starts
add_start-requires-clause-starts c = c.loop.invariant.starts

pub add_start-requires-clause-room : goal.add_start-requires-clause-room
add_start-requires-clause-room c = omega (arith, c.len.ensures, c.if-len-count.false, c.loop.invariant.room)

pub loop-preserved : goal.loop-preserved
loop-preserved c = record {
  few = omega (arith, c.add_start.ensures.few, c.len.ensures, c.if-len-count.false);
  room = subst (λ (n : ℕ). c.args.count ≤ n) (sym c.add_start.ensures.room) c.loop.invariant.room;
  starts = c.add_start.ensures.starts;
}
