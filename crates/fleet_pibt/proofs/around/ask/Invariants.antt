use Rattle.std.proofs.Common.{◌≡◌, ℕ, ◌<◌, Some, slice_get, slice_index}
use Rattle.fleet_pibt.specs.inside.Around.{IsAsked}
use Rattle.fleet_pibt.specs.declared.around.Around.{Around}
use Rattle.fleet_pibt.proofs.around.ask.Given as goal

abbrev pub invariant-loop-robot : goal.invariant-loop-robot
invariant-loop-robot g l = record {
  asked : (r : ℕ) (around : Around) → r < l.robot → slice_get l.arounds r ≡ Some around →
      IsAsked l.grid (g.G.Guide.goal_of l.fn.goals r) (g.G.Guide.distance l.fn.goals l.grid r) (slice_index l.from r) around.nearer.byte around.exits.byte;
  goals : g.G.Guide.goal_of l.goals ≡ g.G.Guide.goal_of l.fn.goals;
  distances : g.G.Guide.distance l.goals ≡ g.G.Guide.distance l.fn.goals;
  shows : g.G.Guide.shows l.goals l.grid;
  stays : g.G.Guide.stays l.fn.goals l.goals;
}
