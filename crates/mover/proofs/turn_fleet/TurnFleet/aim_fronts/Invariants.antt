use Rattle.fleet_field.specs.Store.{Keeps}
use Rattle.fleet_planner.specs.Courses.{goals_of}
use Rattle.fleet_planner.proofs.FirstGoals.{AreAimedBelow}
use Rattle.fleet_state.specs.State.{robot_count}
use Rattle.fleet_turns.specs.Planning.{IsPlannerOf}
use Rattle.mover.specs.inside.Turning.{turn_planner}
use Rattle.mover.proofs.turn_fleet.TurnFleet.aim_fronts.Given as goal

abbrev pub invariant-loop-r : goal.invariant-loop-r
invariant-loop-r g l = record {
  aimed : AreAimedBelow l.state.queues l.r (goals_of l.self.aims);
  planner : IsPlannerOf l.grid (robot_count l.state) (turn_planner l.self);
  keeps : Keeps l.grid l.self.kept;
}
