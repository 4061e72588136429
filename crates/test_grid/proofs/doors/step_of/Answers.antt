use Rattle.std.proofs.Common.{Result, subst}
use Rattle.std.specs.Prelude.{IfOk}
use Rattle.fleet_grid.specs.Floor.{Floor}
use Rattle.fleet_planner.specs.Courses.{AreOn}
use Rattle.test_grid.proofs.FourGoals.{four-goals}
use Rattle.test_grid.proofs.doors.step_of.Goals as goal

pub aim_all-requires-clause-on : goal.aim_all-requires-clause-on
aim_all-requires-clause-on g c =
    (subst (λ (r : Result _ _). IfOk r (λ courses. (m : Floor) → AreOn m courses)) c.expect-courses.ensures c.new.ensures.on) c.args.grid.now

pub step_for-requires-clause-goals : goal.step_for-requires-clause-goals
step_for-requires-clause-goals g c = four-goals c.args.grid.now c.args.from c.args.goals c.aim_all.new.courses c.check_ways.ensures.four c.aim_all.ensures.goals c.check_ways.ensures.joined
