-- Where a robot is.
use Rattle.std.proofs.Common.{◌≡◌, ℕ, ◌<◌, Some, sym, ◌∙◌, ap, arith}
use Rattle.fleet_execution.specs.declared.robot.Robot.{Robot}
use Rattle.fleet_execution.specs.State.{nobody}
use Rattle.fleet_execution.proofs.state.State.standing.Goals as goal

pub returns-clause-some : goal.returns-clause-some
returns-clause-some g c o x =
    let inside : c.args.robot < o.run.plan.robots = omega (arith, x.robots, c.if-robot-self.false) in
    let k = x.tracked c.args.robot inside in
    let is = c.get-state.ensures nobody in
    let returned : c.get-state.result.returned ≡ o.returned c.args.robot = ap (λ (s : Robot). s.returned) is ∙ k.returned in
    let reached : c.get-state.result.reached ≡ o.run.reached c.args.robot = ap (λ (s : Robot). s.reached) is ∙ k.reached in
    record {
      inside = inside;
      cell = ap (λ (s : Robot). s.cell) is ∙ k.cell;
      still = λ same. c.bound_for.ensures.still (returned ∙ (same ∙ sym reached));
      moving = λ less. c.bound_for.ensures.moving (λ e. absurd (omega (arith, less, e, returned, reached))) ∙ ap (λ (b : ℕ). Some b) (ap (λ (s : Robot). s.bound) is ∙ k.bound);
      left = c.left-left.ensures o x;
    }
