use Rattle.std.proofs.Common.{refl}
use Rattle.fleet_planner.proofs.Refused.{all_err}
use Rattle.fleet_planner.proofs.ahead.search_goals.Goals as goal

pub returns-in_err-goals : goal.returns-in_err-goals
returns-in_err-goals g c = record { keeps = c.requires; refused = all_err c.from_residual.result refl }

pub returns : goal.returns
returns g c = record { keeps = c.search_ahead.ensures.keeps; refused = c.search_ahead.ensures.refused }
