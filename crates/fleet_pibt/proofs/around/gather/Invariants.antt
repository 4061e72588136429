use Rattle.std.proofs.Common.{◌≡◌, ℕ, ◌<◌, Some, slice_get, slice_index}
use Rattle.fleet_pibt.specs.inside.Around.{IsAround, AreAsked}
use Rattle.fleet_pibt.specs.declared.around.Around.{Around}
use Rattle.fleet_pibt.proofs.around.gather.Given as goal

abbrev pub invariant-loop-robot : goal.invariant-loop-robot
invariant-loop-robot g l =
    AreAsked l.grid (g.G.Guide.goal_of l.fn.goals) (g.G.Guide.distance l.fn.goals l.grid) l.from l.arounds × ((r : ℕ) (around : Around) → r < l.robot → slice_get l.arounds r ≡ Some around → IsAround l.grid l.door (slice_index l.from r) around)
