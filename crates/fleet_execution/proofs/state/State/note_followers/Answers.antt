-- One more robot is told to the one before it.
use Rattle.std.proofs.Common.{get_or, length, inl, refl, sym, subst, ◌∙◌, ap, arith}
use Rattle.fleet_execution.specs.declared.state.State.{State}
use Rattle.fleet_execution.specs.State.{desk_of, IsSized}
use Rattle.fleet_execution.proofs.Stepping.{AreFollowed, followed_step, sized_window}
use Rattle.fleet_execution.proofs.state.State.note_followers.Goals as goal

pub loop-robot-init : goal.loop-robot-init
loop-robot-init g c = record { rest = refl; size = refl; cells = λ r t. refl; after = λ r t. refl; told = record { told = λ p v less moves is kept. absurd (omega arith); old = λ q e inside kept. inl refl } }

pub follow-requires-clause-sized : goal.follow-requires-clause-sized
follow-requires-clause-sized g c = subst (λ (s : State g.row.A.Denot). IsSized s) (sym c.loop-robot.invariant.rest) (sized_window c.args.self.now c.loop-robot.self.window c.requires.sized c.loop-robot.invariant.size)

pub follow-requires-clause-robots : goal.follow-requires-clause-robots
follow-requires-clause-robots g c = c.requires.robots ∙ sym (ap (λ (s : State g.row.A.Denot). s.count) c.loop-robot.invariant.rest)

pub follow-requires-clause-inside : goal.follow-requires-clause-inside
follow-requires-clause-inside g c = omega (arith, c.loop-robot-test.true, ap (λ (s : State g.row.A.Denot). s.count) c.loop-robot.invariant.rest)

pub follow-requires-clause-cell : goal.follow-requires-clause-cell
follow-requires-clause-cell g c = omega (arith, c.requires.inside c.loop-robot.robot c.loop-robot-test.true, ap (λ (s : State g.row.A.Denot). length s.leaves) c.loop-robot.invariant.rest)

pub follow-requires-clause-known : goal.follow-requires-clause-known
follow-requires-clause-known g c l is =
    let there = sym (ap (λ (s : State g.row.A.Denot). (desk_of s).leave (get_or c.args.to.now c.loop-robot.robot 0)) c.loop-robot.invariant.rest) ∙ is in
    let known = c.requires.last.known (get_or c.args.to.now c.loop-robot.robot 0) l (c.requires.inside c.loop-robot.robot c.loop-robot-test.true) there in
    (omega (arith, known.0, ap (λ (s : State g.row.A.Denot). s.count) c.loop-robot.invariant.rest), omega (arith, known.1, c.requires.step))

pub loop-robot-preserved : goal.loop-robot-preserved
loop-robot-preserved g c =
    let f : AreFollowed c.args.self.now c.loop-robot.self c.args.to.now c.loop-robot.robot = record {
      rest = c.loop-robot.invariant.rest;
      size = c.loop-robot.invariant.size;
      cells = c.loop-robot.invariant.cells;
      after = c.loop-robot.invariant.after;
      told = c.loop-robot.invariant.told;
    } in
    let more = followed_step c.args.self.now c.loop-robot.self c.follow.new.self c.args.to.now c.loop-robot.robot c.args.step c.requires.sized f c.requires.last c.loop-robot-test.true
    (c.requires.inside c.loop-robot.robot c.loop-robot-test.true) c.requires.step c.follow.ensures.rest c.follow.ensures.told c.follow.ensures.same in
    record { rest = more.rest; size = more.size; cells = more.cells; after = more.after; told = more.told }
