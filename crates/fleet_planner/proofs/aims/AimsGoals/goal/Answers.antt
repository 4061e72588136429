-- The robot's goal.
use Rattle.std.proofs.Common.{List, Option, sym, ap, ◌∙◌}
use Rattle.fleet_field.specs.Field.{Aim}
use Rattle.fleet_planner.specs.Aims.{goal_in, aim_at}
use Rattle.fleet_planner.proofs.Fields.{aim_at-fields}
use Rattle.fleet_planner.proofs.aims.AimsGoals.goal.Goals as goal

pub returns : goal.returns
returns g c =
    let a = c.self.inside in
    (rw c.deref.ensures.value at c.goal_of.ensures)
    ∙ (ap goal_in (sym (aim_at-fields a.store a.keys.items c.args.robot)) ∙ ap (λ (aims : List (Option Aim)). goal_in (aim_at aims c.args.robot)) c.self.view_is)
