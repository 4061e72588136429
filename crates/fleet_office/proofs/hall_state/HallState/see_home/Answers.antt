use Rattle.std.proofs.Common.{arith, ap}
use Rattle.fleet_history.specs.History.{clock}
use Rattle.fleet_office.proofs.hall_state.HallState.see_home.Goals as goal

pub returns-in-Some-clause-err : goal.returns-in-Some-clause-err
returns-in-Some-clause-err g c = rw (← c.ring_count.ensures) c.in-Some.ensures.some

pub returns-in-Some-twice-clause-err : goal.returns-in-Some-twice-clause-err
returns-in-Some-twice-clause-err g c = (rw (← c.ring_count.ensures) c.in_default.ensures.none, c.in-Some-twice.ensures.some)

pub overflow_sub-result : goal.overflow_sub-result
overflow_sub-result g c = omega (arith, c.if-made-tick.true)

pub returns-then-made-tick-clause-same : goal.returns-then-made-tick-clause-same
returns-then-made-tick-clause-same g c = c.ticks_by-made.ensures.same

pub returns-then-made-tick-clause-tickers : goal.returns-then-made-tick-clause-tickers
returns-then-made-tick-clause-tickers g c = c.ticks_by-made.ensures.tickers

pub returns-clause-same : goal.returns-clause-same
returns-clause-same g c = c.ticks_by-made.ensures.same

pub returns-clause-tickers : goal.returns-clause-tickers
returns-clause-tickers g c = c.ticks_by-made.ensures.tickers

pub returns-then-made-tick-clause-err : goal.returns-then-made-tick-clause-err
returns-then-made-tick-clause-err g c = (
  rw (← c.ring_count.ensures) c.in_default.ensures.none,
  c.in_default-twice.ensures.none,
  omega (arith, c.if-made-tick.true),
  omega (arith, c.ticks_by-made.ensures.value, c.if-made-tick.true, c.clock-tick.ensures, ap (λ h. clock h.world.history) c.ticks_by-made.ensures.same),
  (λ all. absurd (omega (arith, c.ticks_by-made.ensures.whole all, c.if-made-tick.true, c.clock-tick.ensures, ap (λ h. clock h.world.history) c.ticks_by-made.ensures.same))),
)

pub returns-clause-ok : goal.returns-clause-ok
returns-clause-ok g c = record {
  all = rw (← c.ring_count.ensures) c.in_default.ensures.none;
  distinct = c.in_default-twice.ensures.none;
  counted = omega (arith, c.ticks_by-made.ensures.value, c.ticks_by-made.ensures.bound, c.if-made-tick.false, c.clock-tick.ensures, ap (λ h. clock h.world.history) c.ticks_by-made.ensures.same);
}
