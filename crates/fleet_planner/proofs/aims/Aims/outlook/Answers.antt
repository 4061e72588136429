-- What the robot sees, by its key.
use Rattle.std.proofs.Common.{◌≡◌, List, Option, sym, ap, subst, ◌∙◌}
use Rattle.fleet_grid.specs.Ways.{AreNearer}
use Rattle.fleet_field.specs.Field.{Aim}
use Rattle.fleet_planner.specs.Aims.{goal_in, distance_in, aim_at, AreOn}
use Rattle.fleet_planner.specs.Keys.{field_at, key_at}
use Rattle.fleet_planner.proofs.Fields.{aim_at-fields, serves_on}
use Rattle.fleet_planner.proofs.aims.Aims.outlook.Goals as goal

pub outlook_of-requires-clause-serves : goal.outlook_of-requires-clause-serves
outlook_of-requires-clause-serves g c =
    let a = c.self.inside in
    serves_on c.args.grid.now a.store a.keys.items c.self.invariant.0 (subst (AreOn c.args.grid.now) (sym c.self.view_is) c.requires.on)

pub returns-clause-nearer : goal.returns-clause-nearer
returns-clause-nearer g c =
    let a = c.self.inside in
    let aim : field_at a.store (key_at a.keys.items c.args.robot) ≡ aim_at c.args.self.now c.args.robot =
    sym (aim_at-fields a.store a.keys.items c.args.robot) ∙ ap (λ (aims : List (Option Aim)). aim_at aims c.args.robot) c.self.view_is in
    subst (λ (o : Option Aim). AreNearer c.args.grid.now (distance_in o) c.args.cell c.outlook_of.result.nearer.byte) aim (rw c.deref.ensures.value at c.outlook_of.ensures.nearer)

pub returns-clause-idle : goal.returns-clause-idle
returns-clause-idle g c =
    let a = c.self.inside in
    let aim : field_at a.store (key_at a.keys.items c.args.robot) ≡ aim_at c.args.self.now c.args.robot =
    sym (aim_at-fields a.store a.keys.items c.args.robot) ∙ ap (λ (aims : List (Option Aim)). aim_at aims c.args.robot) c.self.view_is in
    λ none. (rw c.deref.ensures.value at c.outlook_of.ensures.idle) (ap goal_in aim ∙ none)
