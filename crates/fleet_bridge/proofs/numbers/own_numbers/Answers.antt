use Rattle.std.proofs.Common.{arith}
use Rattle.fleet_bridge.proofs.Inner.{own_more}
use Rattle.fleet_bridge.proofs.numbers.own_numbers.Goals as goal

pub loop-cell-init : goal.loop-cell-init
loop-cell-init g c = record {
  size = c.in_ok-own.ensures.len;
  room = c.in_ok-own.ensures.capacity;
  own = λ k less. absurd (omega (arith, less));
}

pub push_reserved-requires : goal.push_reserved-requires
push_reserved-requires g c = omega (arith, c.loop-cell-test.true, c.loop-cell.invariant.size, c.loop-cell.invariant.room)

pub loop-cell-preserved : goal.loop-cell-preserved
loop-cell-preserved g c = record {
  size = omega (arith, c.push_reserved.ensures.len, c.loop-cell.invariant.size);
  room = omega (arith, c.push_reserved.ensures.capacity, c.loop-cell.invariant.room);
  own = own_more c.loop-cell.own.items c.push_reserved.new.self.items c.loop-cell.cell (omega (arith, c.loop-cell.own.ok.0, c.loop-cell.invariant.size)) c.push_reserved.ensures.items c.loop-cell.invariant.own;
}

pub returns-clause-size : goal.returns-clause-size
returns-clause-size g c = omega (arith, c.loop-cell.invariant.size, c.loop-cell-test.false, c.loop-cell.auto.cell-end)

pub returns-clause-own : goal.returns-clause-own
returns-clause-own g c = λ k less. c.loop-cell.invariant.own k (omega (arith, less, c.loop-cell-test.false))
