use Rattle.std.proofs.Common.{Option, sym, ap, subst}
use Rattle.std.specs.Prelude.{IfOk}
use Rattle.fleet_grid.specs.Ways.{AreNearer}
use Rattle.fleet_field.proofs.Grown.{grown_serves}
use Rattle.fleet_field.specs.Growing.{growth_of}
use Rattle.fleet_planner.specs.Aims.{goal as shared_goal}
use Rattle.fleet_planner.specs.Courses.{growth_in, own_goal, first_of, way_to}
use Rattle.fleet_planner.proofs.Measured.{shared-nearer}
use Rattle.fleet_planner.proofs.courses.outlook_by.Goals as goal

pub outlook-requires-clause-serves : goal.outlook-requires-clause-serves
outlook-requires-clause-serves g c = grown_serves c.args.grid.now c.in-Some.field (c.requires.grown (growth_of c.in-Some.field) (ap growth_in c.in-Some.is))

pub returns-in-Some-clause-nearer : goal.returns-in-Some-clause-nearer
returns-in-Some-clause-nearer g c =
    let m = c.args.grid.now in
    let shared = shared_goal c.args.shared.now c.args.robot in
    subst (λ (own : Option _). IfOk c.outlook.result (λ outlook. AreNearer m (way_to m (first_of (own_goal (growth_in own)) shared)) c.args.cell outlook.nearer.byte)) (sym c.in-Some.is) c.outlook.ensures.nearer

pub returns-in-None-clause-nearer : goal.returns-in-None-clause-nearer
returns-in-None-clause-nearer g c =
    let m = c.args.grid.now in
    let aims = c.args.shared.now in
    let near = shared-nearer m aims c.args.robot c.args.cell c.outlook-in-None.result.nearer.byte c.requires.shared c.outlook-in-None.ensures.nearer in
    subst (λ (own : Option _). AreNearer m (way_to m (first_of (own_goal (growth_in own)) (shared_goal aims c.args.robot))) c.args.cell c.outlook-in-None.result.nearer.byte) (sym c.in-None.is) near
