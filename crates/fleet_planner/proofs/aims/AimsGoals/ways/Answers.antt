-- The ways that lead nearer to the robot's goal.
use Rattle.std.proofs.Common.{◌≡◌, List, Option, sym, ap, subst, ◌∙◌}
use Rattle.fleet_grid.specs.Ways.{AreNearer}
use Rattle.fleet_field.specs.Field.{Aim}
use Rattle.fleet_planner.specs.Aims.{goal_in, distance_in, aim_at}
use Rattle.fleet_planner.specs.Keys.{field_at, key_at}
use Rattle.fleet_planner.proofs.Fields.{aim_at-fields}
use Rattle.fleet_planner.proofs.aims.AimsGoals.ways.Goals as goal

pub returns-clause-nearer : goal.returns-clause-nearer
returns-clause-nearer g c =
    let a = c.self.inside in
    let aim : field_at a.store (key_at a.keys.items c.args.robot) ≡ aim_at c.args.self.now c.args.robot =
    sym (aim_at-fields a.store a.keys.items c.args.robot) ∙ ap (λ (aims : List (Option Aim)). aim_at aims c.args.robot) c.self.view_is in
    λ some. subst (λ (o : Option Aim). AreNearer c.args.grid.now (distance_in o) c.args.cell c.ways_of.result.byte) aim (rw c.deref.ensures.value at c.ways_of.ensures.nearer)

pub returns-clause-idle : goal.returns-clause-idle
returns-clause-idle g c =
    let a = c.self.inside in
    let aim : field_at a.store (key_at a.keys.items c.args.robot) ≡ aim_at c.args.self.now c.args.robot =
    sym (aim_at-fields a.store a.keys.items c.args.robot) ∙ ap (λ (aims : List (Option Aim)). aim_at aims c.args.robot) c.self.view_is in
    λ none. (rw c.deref.ensures.value at c.ways_of.ensures.idle) (ap goal_in aim ∙ none)
