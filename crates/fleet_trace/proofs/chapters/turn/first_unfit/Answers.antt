-- One more chapter continues the one before it, or does not.
use Rattle.std.proofs.Common.{◌∙◌, ◌-◌, sym, arith}
use Rattle.fleet_trace.specs.Trace.{trace_of}
use Rattle.fleet_trace.proofs.ErrandNames.{impossible}
use Rattle.fleet_trace.proofs.Turns.{one-in-turn, next-in-turn, unfit-here}
use Rattle.fleet_trace.proofs.chapters.turn.first_unfit.Goals as goal

pub loop-place-init : goal.loop-place-init
loop-place-init c = record { some = omega arith; turn = one-in-turn c.args.grid.now trace_of c.args.chapters.now }

pub loop-place-preserved : goal.loop-place-preserved
loop-place-preserved c = record {
  some = omega (arith, c.loop-place.invariant.some);
  turn = next-in-turn c.args.grid.now trace_of c.args.chapters.now c.loop-place.place (c.loop-place.place - 1) (omega (arith, c.loop-place.invariant.some)) c.index-chapters-place.result c.index-chapters-place-in-loop-place.result
      c.loop-place-test.true (sym c.index-chapters-place.is) (sym c.index-chapters-place-in-loop-place.is) c.loop-place.invariant.turn (c.in_ok-continues.ensures.0 c.if-not-branch.false);
}

pub returns-then-not-branch-clause-first : goal.returns-then-not-branch-clause-first
returns-then-not-branch-clause-first c =
    unfit-here c.args.grid.now trace_of c.args.chapters.now c.loop-place.place (c.loop-place.place - 1) (omega (arith, c.loop-place.invariant.some)) c.index-chapters-place.result c.index-chapters-place-in-loop-place.result
    c.loop-place-test.true (sym c.index-chapters-place.is) (sym c.index-chapters-place-in-loop-place.is) c.loop-place.invariant.turn
    (λ next. impossible (sym c.if-not-branch.true ∙ c.in_ok-continues.ensures.1 next))
