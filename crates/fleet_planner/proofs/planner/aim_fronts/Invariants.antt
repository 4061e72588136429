use Rattle.std.proofs.Common.{◌≡◌, length}
use Rattle.fleet_field.specs.Store.{Keeps}
use Rattle.fleet_planner.specs.Courses.{goals_of, AreOn}
use Rattle.fleet_planner.proofs.FirstGoals.{AreAimedBelow}
use Rattle.fleet_planner.proofs.planner.aim_fronts.Given as goal

abbrev pub invariant-loop-r : goal.invariant-loop-r
invariant-loop-r g l = record {
  aimed : AreAimedBelow l.state.queues l.r (goals_of l.aims);
  count : length (goals_of l.aims) ≡ length (goals_of l.fn.aims);
  on : AreOn l.grid l.aims;
  keeps : Keeps l.grid l.cache;
}
