use Rattle.std.proofs.Common.{arith, ◌≡◌, ◌∙◌, ap}
use Rattle.fleet_grid.specs.Counts.{floor_count}
use Rattle.fleet_grid.specs.Floor.{IsNeighbour}
use Rattle.fleet_grid.specs.Walk.{IsBridgeless}
use Rattle.fleet_history.specs.History.{history_of, robots}
use Rattle.fleet_bound.specs.Idle.{longest_queue, longest_after, idle_within}
use Rattle.fleet_bound.proofs.Longest.{longest-room}
use Rattle.fleet_bound.proofs.TickCounts.{within-told, within-exact, within-idle}
use Rattle.fleet_state.proofs.Parts.{robots-few}
use Rattle.fleet_core.proofs.kernel.Core.idle_within.Goals as goal
use Rattle.fleet_core.proofs.kernel.Core.idle_within.Goals.{After-idle_within}

longest_is : (g : _) (c : After-idle_within g) → c.longest_queue.result ≡ longest_after (history_of c.self.inside.chapter)
longest_is g c = c.longest_queue.ensures ∙ ap longest_queue (c.queues.ensures.of c.self.inside.grid (history_of c.self.inside.chapter) c.self.invariant.is)

robots_is : (g : _) (c : After-idle_within g) → c.robots.result ≡ robots (history_of c.self.inside.chapter)
robots_is g c = c.robots.ensures.of c.self.inside.grid (history_of c.self.inside.chapter) c.self.invariant.is

told_is : (g : _) (c : After-idle_within g) → c.idle_within.result ≡ idle_within c.self.inside.planner.planner.bridgeless c.longest_queue.result c.robots.result (floor_count c.self.inside.grid)
told_is g c = rw (c.is_bridgeless.ensures, c.floor_count.ensures) at c.idle_within.ensures

pub idle_within-requires-clause-queued : goal.idle_within-requires-clause-queued
idle_within-requires-clause-queued g c =
    let h = history_of c.self.inside.chapter in
    omega (arith, c.longest_queue.ensures ∙ ap longest_queue (c.queues.ensures.of c.self.inside.grid h c.self.invariant.is), longest-room c.self.inside.grid h c.self.invariant.is.legal)

pub idle_within-requires-clause-few : goal.idle_within-requires-clause-few
idle_within-requires-clause-few g c = omega (arith, c.robots.ensures.count, robots-few c.self.invariant.is)

pub returns-clause-told : goal.returns-clause-told
returns-clause-told g c = rw (← c.self.view_is)
    (within-told (IsBridgeless (IsNeighbour c.self.inside.grid)) c.self.inside.planner.planner.bridgeless c.longest_queue.result c.robots.result (floor_count c.self.inside.grid) c.idle_within.result c.self.invariant.aimed.bridge (told_is g c))

pub returns-clause-exact : goal.returns-clause-exact
returns-clause-exact g c =
    let h = history_of c.self.inside.chapter in
    rw (← c.self.view_is)
    (within-exact c.self.inside.planner.planner.bridgeless c.longest_queue.result c.robots.result (floor_count c.self.inside.grid) (longest_after h) (robots h) c.idle_within.result (longest_is g c) (robots_is g c) (told_is g c))

pub returns-clause-idle : goal.returns-clause-idle
returns-clause-idle g c =
    rw (← c.self.view_is)
    (within-idle c.self.inside.grid (history_of c.self.inside.chapter) c.self.inside.planner.planner.bridgeless c.longest_queue.result c.robots.result c.idle_within.result (longest_is g c) (robots_is g c) (told_is g c))
