use Rattle.std.proofs.Common.{ap, sym, subst, arith}
use Rattle.fleet_field.specs.Store.{Keeps}
use Rattle.fleet_planner.specs.Courses.{AreOn}
use Rattle.fleet_planner.specs.Aimed.{Planner, IsNewPlanner}
use Rattle.fleet_state.proofs.Parts.{robots-few}
use Rattle.fleet_planner.proofs.FirstGoals.{aimed-first}
use Rattle.fleet_planner.proofs.planner.Planner.resume.Goals as goal

pub open-requires : goal.open-requires
open-requires g c = omega (arith, c.robots.ensures.count, robots-few c.requires.1)

pub aim_fronts-requires-clause-is : goal.aim_fronts-requires-clause-is
aim_fronts-requires-clause-is g c = c.requires

pub aim_fronts-requires-clause-on : goal.aim_fronts-requires-clause-on
aim_fronts-requires-clause-on g c = subst (λ (p : Planner). AreOn c.args.grid.now p.aims) (sym c.planner.view_is) c.in_ok-planner.ensures.on

pub aim_fronts-requires-clause-keeps : goal.aim_fronts-requires-clause-keeps
aim_fronts-requires-clause-keeps g c = subst (λ (p : Planner). Keeps c.args.grid.now p.kept) (sym c.planner.view_is) c.in_ok-planner.ensures.keeps

pub returns : goal.returns
returns g c = λ h k.
    let new = subst (λ n. IsNewPlanner c.args.grid.now n c.in_ok-planner.planner) c.robots.ensures.count c.in_ok-planner.ensures in
    let made = c.in_ok-aim_fronts.ensures in
    aimed-first k new made.goals made.on (ap (λ (p : Planner). p.size) c.planner.view_is) (ap (λ (p : Planner). p.bridgeless) c.planner.view_is) made.keeps
