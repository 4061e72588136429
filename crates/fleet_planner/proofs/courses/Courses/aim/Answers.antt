use Rattle.fleet_planner.specs.Turned.{turned}
use Rattle.fleet_planner.proofs.courses.Courses.aim.Goals as goal

pub returns-clause-goals : goal.returns-clause-goals
unfolding turned
returns-clause-goals g c = c.turn.ensures.goals
