use Rattle.fleet_stats.proofs.Steps.{step-is}
use Rattle.fleet_field.specs.Growing.{goal_of}
use Rattle.fleet_stats.proofs.away.step.Goals as goal

pub returns-clause-step : goal.returns-clause-step
returns-clause-step c =
    step-is c.args.grid.now (goal_of c.args.field.now) c.args.cell c.in_ok-outlook.outlook.nearer.byte c.requires.floor c.in_ok-outlook.ensures.nearer c.first_next.result c.first_next.ensures
