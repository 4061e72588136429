-- The board as the robots are taken off it, one after another.
use Rattle.std.proofs.Common.{arith, refl, sym, ◌∙◌}
use Rattle.fleet_pibt.proofs.Entries.{settle-inside, settle-more, settle-start, settle-empty}
use Rattle.fleet_pibt.proofs.tables.settle.Goals as goal

pub release-requires-clause-inside : goal.release-requires-clause-inside
release-requires-clause-inside g c = λ d e. let p = settle-inside c.args.board.now.target c.args.board.now.seats.holder c.loop-robot.board.target c.loop-robot.board.seats.holder c.loop-robot.to c.loop-robot.robot 0 c.requires.matched c.loop-robot.invariant.settled d e in omega arith

pub loop-robot-preserved : goal.loop-robot-preserved
loop-robot-preserved g c = record {
  standing = c.release.ensures.standing ∙ c.loop-robot.invariant.standing;
  settled =
      rw (c.release.ensures.target, c.release.ensures.holder)
      (settle-more c.args.board.now.target c.args.board.now.seats.holder c.loop-robot.board.target c.loop-robot.board.seats.holder c.loop-robot.to c.loop-robot.robot c.release.result c.requires.matched c.loop-robot.invariant.settled (omega (arith, c.loop-robot-test.true)) c.release.ensures.decided);
}

pub returns-clause-no_holder : goal.returns-clause-no_holder
returns-clause-no_holder g c = (settle-empty c.args.board.now.target c.args.board.now.seats.holder c.loop-robot.board.target c.loop-robot.board.seats.holder c.loop-robot.to c.loop-robot.robot c.requires.matched (omega (arith, c.requires.same)) c.loop-robot.invariant.settled).1

pub loop-robot-init : goal.loop-robot-init
loop-robot-init g c = record { standing = refl; settled = settle-start c.args.board.now.target c.args.board.now.seats.holder c.args.to.now }

pub release-requires-clause-known : goal.release-requires-clause-known
release-requires-clause-known g c = omega (arith, c.loop-robot-test.true, c.loop-robot.invariant.settled.targets, c.requires.same)

pub release-requires-clause-decided : goal.release-requires-clause-decided
release-requires-clause-decided g c = λ e. c.requires.decided c.loop-robot.robot (omega (arith, c.loop-robot-test.true)) (sym (c.loop-robot.invariant.settled.rest c.loop-robot.robot (omega arith)) ∙ e)

pub returns-clause-targets : goal.returns-clause-targets
returns-clause-targets g c = c.loop-robot.invariant.settled.targets

pub returns-clause-holders : goal.returns-clause-holders
returns-clause-holders g c = c.loop-robot.invariant.settled.holders

pub returns-clause-standing : goal.returns-clause-standing
returns-clause-standing g c = c.loop-robot.invariant.standing

pub returns-clause-no_target : goal.returns-clause-no_target
returns-clause-no_target g c = (settle-empty c.args.board.now.target c.args.board.now.seats.holder c.loop-robot.board.target c.loop-robot.board.seats.holder c.loop-robot.to c.loop-robot.robot c.requires.matched (omega (arith, c.requires.same)) c.loop-robot.invariant.settled).0
