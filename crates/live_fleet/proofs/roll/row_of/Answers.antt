-- It is what is read.
use Rattle.std.proofs.Common.{◌∙◌, ap, Global}
use Rattle.fleet_history.specs.History.{History}
use Rattle.live_fleet.proofs.Rolls.{row-of}
use Rattle.live_fleet.proofs.roll.row_of.Goals as goal

pub returns : goal.returns
returns g c =
    row-of c.args.session.now.world.core c.args.robot c.as_slice.result.now c.args.shut.now c.args.all.now c.front.result c.wait_of-wait.result c.is_shut-is_shut.result c.is_some.result c.cell_of-cell.result c.goal_of.result c.errands_of.result
    c.unwrap_or.result c.duty_of.result (c.as_slice.ensures ∙ ap (λ (h : History Global). h.opening.robots) c.chapter.ensures.history) c.requires.shut c.requires.all c.front.ensures c.wait_of-wait.ensures.wait c.cell_of-cell.ensures c.goal_of.ensures
    c.errands_of.ensures c.unwrap_or.ensures c.is_shut-is_shut.ensures c.is_some.ensures c.duty_of.ensures
