-- Round the robots that turn together.
use Rattle.std.proofs.Common.{◌≢◌, ℕ, ◌+◌, ◌≤◌, ◌∙◌, ap, arith}
use Rattle.fleet_execution.specs.Desk.{before_in, chain}
use Rattle.fleet_execution.specs.State.{desk_of, nobody}
use Rattle.fleet_execution.specs.declared.robot.Robot.{Robot}
use Rattle.fleet_execution.proofs.Chains.{comes_back, next_is, up_to}
use Rattle.fleet_execution.proofs.state.State.lap.Goals as goal

pub get-requires : goal.get-requires
get-requires g c =
    let f = before_in (desk_of c.args.self.now).window c.args.step in
    let is = next_is (before_in (desk_of c.args.self.now).window c.args.step) c.args.robot c.loop-passed.passed c.loop-passed.at c.before-at.result c.before-at.ensures c.loop-passed.invariant.at in
    let inside = c.requires.ring.inside (c.loop-passed.passed + 1) in
    omega (arith, is, inside, c.requires.sized.robots)

pub returns-then-get-step-clause-waits : goal.returns-then-get-step-clause-waits
returns-then-get-step-clause-waits g c zero_is =
    let is = next_is (before_in (desk_of c.args.self.now).window c.args.step) c.args.robot c.loop-passed.passed c.loop-passed.at c.before-at.result c.before-at.ensures c.loop-passed.invariant.at in (
      c.loop-passed.passed + 1,
      λ e. c.if-at-robot.false (is ∙ e),
      omega (arith, ap (λ (s : Robot). s.reached) (c.get.ensures nobody), ap (λ (q : ℕ). ((desk_of c.args.self.now).robot q).reached) is, c.if-get-step.true),
    )

pub loop-passed-preserved : goal.loop-passed-preserved
loop-passed-preserved g c =
    let is = next_is (before_in (desk_of c.args.self.now).window c.args.step) c.args.robot c.loop-passed.passed c.loop-passed.at c.before-at.result c.before-at.ensures c.loop-passed.invariant.at in
    record {
      at = is;
      inside = omega (arith, is, c.requires.ring.inside (c.loop-passed.passed + 1));
      reached = up_to c.loop-passed.passed (λ j. c.args.step ≤ ((desk_of c.args.self.now).robot (chain (before_in (desk_of c.args.self.now).window c.args.step) c.args.robot j)).reached)
          c.loop-passed.invariant.reached (omega (arith, ap (λ (s : Robot). s.reached) (c.get.ensures nobody), ap (λ (q : ℕ). ((desk_of c.args.self.now).robot q).reached) is, c.if-get-step.false));
      away = up_to c.loop-passed.passed (λ j. chain (before_in (desk_of c.args.self.now).window c.args.step) c.args.robot j ≢ c.args.robot)
          c.loop-passed.invariant.away (λ e. c.if-at-robot.false (is ∙ e));
    }

pub returns-clause-waits : goal.returns-clause-waits
returns-clause-waits g c zero_is = absurd (comes_back (before_in (desk_of c.args.self.now).window c.args.step) c.args.robot c.args.self.now.count c.requires.ring.inside c.requires.ring.apart
    (λ k some small. c.loop-passed.invariant.away k some (omega arith)))
