-- One more step is looked at.
use Rattle.std.proofs.Common.{ℕ, ◌+◌, ◌<◌, ◌≤◌, inl, inr, sym, ◌∙◌, ap, subst, arith}
use Rattle.std.proofs.lemmas.Bool.{cases_lt}
use Rattle.fleet_execution.specs.declared.robot.Robot.{Robot}
use Rattle.fleet_execution.specs.declared.robot.Planned.{Planned}
use Rattle.fleet_execution.specs.State.{desk_of, nobody}
use Rattle.fleet_execution.proofs.Left.{IsCounted, counts_first, counts_same, counts_more}
use Rattle.fleet_execution.proofs.state.State.left.Goals as goal

pub loop-step-init : goal.loop-step-init
loop-step-init g c =
    let is = c.get-state.ensures nobody in
    let low : ((desk_of c.args.self.now).robot c.args.robot).returned ≤ c.max-step.result = omega (arith, c.max-step.ensures, ap (λ (s : Robot). s.returned) is) in
    record {
      low = low;
      few = omega (arith, c.max-step.ensures, c.saturating_sub-before.ensures, c.from.ensures);
      kept = omega (arith, c.max-step.ensures, c.saturating_sub-before.ensures, c.from.ensures);
      counted = λ o x.
          let inside : c.args.robot < o.run.plan.robots = omega (arith, c.requires.inside, x.robots) in
          let k = x.tracked c.args.robot inside in
          let small = x.course.lawful.within c.args.robot inside in
          let high = x.course.high c.args.robot inside in
          let first = counts_first (desk_of c.args.self.now) o x c.args.robot inside c.max-step.result (omega (arith, low, k.returned))
          (omega (arith, c.max-step.ensures, c.saturating_sub-before.ensures, ap (λ (s : Robot). s.returned) is, k.returned, small, high, x.steps))
          (elim (cases_lt c.get-state.result.returned c.saturating_sub-before.result) [
            | inl old ↦ inr (omega (arith, c.max-step.ensures, c.saturating_sub-before.ensures, c.from.ensures, old, x.steps))
            | inr soon ↦ inl (omega (arith, c.max-step.ensures, soon, ap (λ (s : Robot). s.returned) is, k.returned))
          ]) in
          subst (λ (b : ℕ). IsCounted o c.args.robot c.max-step.result b 0) (sym (ap (λ (s : Robot). s.bound) is)) first;
    }

pub loop-step-preserved-then-to-cell : goal.loop-step-preserved-then-to-cell
loop-step-preserved-then-to-cell g c =
    let i = c.loop-step.invariant in
    let to = ap (λ (p : Planned). p.to) c.planned-to.ensures in
    record {
      low = omega (arith, i.low);
      few = omega (arith, i.few);
      kept = omega (arith, i.kept);
      counted = λ o x.
          let inside : c.args.robot < o.run.plan.robots = omega (arith, c.requires.inside, x.robots) in
          let k = x.tracked c.args.robot inside in
          let more = counts_more (desk_of c.args.self.now) o x c.args.robot inside c.loop-step.step c.loop-step.cell c.loop-step.left (omega (arith, c.loop-step-test.true, x.steps)) (omega (arith, i.kept, x.steps))
          (omega (arith, i.low, k.returned)) (λ e. c.if-to-cell.true (to ∙ e)) (i.counted o x) in
          subst (λ (b : ℕ). IsCounted o c.args.robot (c.loop-step.step + 1) b (c.loop-step.left + 1)) (sym to) more;
    }

pub loop-step-preserved : goal.loop-step-preserved
loop-step-preserved g c =
    let i = c.loop-step.invariant in
    let to = ap (λ (p : Planned). p.to) c.planned-to.ensures in
    record {
      low = omega (arith, i.low);
      few = omega (arith, i.few);
      kept = omega (arith, i.kept);
      counted = λ o x.
          let inside : c.args.robot < o.run.plan.robots = omega (arith, c.requires.inside, x.robots) in
          let same = counts_same (desk_of c.args.self.now) o x c.args.robot inside c.loop-step.step c.loop-step.cell c.loop-step.left (omega (arith, c.loop-step-test.true, x.steps)) (omega (arith, i.kept, x.steps))
          (sym to ∙ c.if-to-cell.false) (i.counted o x) in
          subst (λ (b : ℕ). IsCounted o c.args.robot (c.loop-step.step + 1) b c.loop-step.left) (sym c.if-to-cell.false) same;
    }
