-- Robots at the front that may not begin are dropped.
use Rattle.std.proofs.Common.{length, refl, sym, ap, arith}
use Rattle.fleet_execution.proofs.Choosing.{dropped_state, sized_ready, shorter}
use Rattle.fleet_execution.proofs.state.State.choose.Goals as goal

pub loop-robot-init : goal.loop-robot-init
loop-robot-init g c = record { sized = c.requires.sound.sized; idle = c.requires.idle; keeps = λ o x. x; bounds = record { cells = refl; ahead = refl } }

pub beginning-requires-clause-sound : goal.beginning-requires-clause-sound
beginning-requires-clause-sound g c = record {
  sized = c.loop-robot.invariant.sized;
  course = c.requires.sound.course;
  executes = c.loop-robot.invariant.keeps c.requires.sound.course c.requires.sound.executes;
}

pub beginning-requires-clause-inside : goal.beginning-requires-clause-inside
beginning-requires-clause-inside g c = omega (arith, c.in-Some.ensures.inside, c.loop-robot.invariant.sized.ready)

pub loop-robot-preserved : goal.loop-robot-preserved
loop-robot-preserved g c = record {
  sized = sized_ready c.loop-robot.self c.drop_first.new.self c.loop-robot.invariant.sized c.drop_first.ensures.robots;
  idle = c.loop-robot.invariant.idle;
  keeps = λ o x. dropped_state c.loop-robot.self c.drop_first.new.self c.in-Some.robot c.loop-robot.invariant.idle (sym c.in-Some.ensures.value) c.in_default-beginning.ensures c.drop_first.ensures.items o
      (c.loop-robot.invariant.keeps o x);
  bounds = record { cells = c.loop-robot.invariant.bounds.cells; ahead = c.loop-robot.invariant.bounds.ahead };
}

pub loop-robot-smaller : goal.loop-robot-smaller
loop-robot-smaller g c = omega (arith, shorter c.loop-robot.self.ready.items c.in-Some.robot (sym c.in-Some.ensures.value), ap length c.drop_first.ensures.items)
