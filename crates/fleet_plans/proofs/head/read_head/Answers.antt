-- The head with one more line.
use Rattle.std.proofs.Common.{rules, arith}
use Rattle.fleet_plans.specs.Head.{head_of}
use Rattle.fleet_plans.proofs.head.read_head.Goals as goal

pub loop-line-preserved : goal.loop-line-preserved
unfolding head_of
loop-line-preserved g c = record {
  read = search rules;
  room = omega (arith, c.loop-line.invariant.room, c.in-Some.ensures.shorter);
  few = c.in_ok-add_line.ensures.few (omega (arith, c.in-Some.ensures.within, c.loop-line.invariant.room, c.requires)) c.loop-line.invariant.few;
  short = omega (arith, c.loop-line.invariant.short, c.in-Some.ensures.shorter);
}
