use Rattle.std.proofs.Common.{ℕ, ◌<◌}
use Rattle.std.specs.Prelude.{MatchOption}
use Rattle.fleet_planner.specs.Lending.{IsInside, IsNearestOf}
use Rattle.fleet_planner.proofs.lending.nearest_inside.Given as goal

abbrev pub invariant-loop-robot : goal.invariant-loop-robot
invariant-loop-robot l = MatchOption l.found ((r : ℕ) → r < l.robot → IsInside l.rooms.door.now l.cells l.room l.but r → ⊥) (λ x. IsNearestOf l.rooms.door.now l.rooms.away.now l.cells l.room l.but l.robot x)
