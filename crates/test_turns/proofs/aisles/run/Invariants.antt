use Rattle.fleet_turns.specs.Planning.{IsPlannerOf}
use Rattle.test_turns.proofs.aisles.run.Given as goal

abbrev pub invariant-loop-tick : goal.invariant-loop-tick
invariant-loop-tick g l = IsPlannerOf l.grid 4 l.planner
