-- As many steps as the distance.
use Rattle.std.proofs.Common.{◌≡◌, ◌∙◌, ℕ, Option, Some, sym, subst, arith}
use Rattle.fleet_grid.specs.Floor.{IsFloor}
use Rattle.fleet_grid.specs.Distance.{distance}
use Rattle.fleet_field.specs.Growing.{goal_of}
use Rattle.fleet_stats.specs.inside.Steps.{IsStep, after}
use Rattle.fleet_stats.proofs.Steps.{at-goal, no-more, one-more}
use Rattle.fleet_stats.proofs.away.steps_to.Goals as goal

pub returns-then-cell-goal-clause-steps : goal.returns-then-cell-goal-clause-steps
returns-then-cell-goal-clause-steps c =
    let m = c.args.grid.now in
    let same : after c.loop-taken.taken (distance m (goal_of c.args.field.now) (goal_of c.args.field.now)) ≡ distance m c.args.from (goal_of c.args.field.now) = cc (c.loop-taken.invariant.same, c.loop-taken.invariant.is, c.if-cell-goal.true) in
    at-goal m (goal_of c.args.field.now) c.args.from c.loop-taken.taken c.requires.serves.goal same

pub loop-taken-preserved : goal.loop-taken-preserved
loop-taken-preserved c =
    let m = c.args.grid.now in
    let step : IsStep m c.goal-goal.result c.loop-taken.cell (Some c.in-Some.next) =
    subst (λ (o : Option ℕ). IsStep m c.goal-goal.result c.loop-taken.cell o) c.in-Some.is
    (subst (λ (g : ℕ). IsStep m g c.loop-taken.cell c.in_ok-next.field-0) (c.loop-taken.invariant.aimed ∙ sym c.loop-taken.invariant.is) c.in_ok-next.ensures.step) in
    record {
      end = c.loop-taken.invariant.end;
      below = omega (arith, c.loop-taken-test.true);
      serves = c.step.ensures.serves;
      aimed = c.step.ensures.goal ∙ c.loop-taken.invariant.aimed;
      is = c.loop-taken.invariant.is;
      floor = step.0;
      same = one-more m c.goal-goal.result c.loop-taken.cell c.in-Some.next c.loop-taken.taken (distance m c.args.from (goal_of c.args.field.now)) step.1 c.loop-taken.invariant.same;
    }

pub returns-clause-steps : goal.returns-clause-steps
returns-clause-steps c =
    let m = c.args.grid.now in
    let same : after c.loop-taken.taken (distance m c.loop-taken.cell (goal_of c.args.field.now)) ≡ distance m c.args.from (goal_of c.args.field.now) =
    subst (λ (g : ℕ). after c.loop-taken.taken (distance m c.loop-taken.cell g) ≡ distance m c.args.from (goal_of c.args.field.now)) c.loop-taken.invariant.is c.loop-taken.invariant.same in
    no-more m (goal_of c.args.field.now) c.loop-taken.cell c.args.from c.loop-taken.taken c.requires.floor (omega (arith, c.loop-taken.invariant.end, c.loop-taken-test.false)) same
