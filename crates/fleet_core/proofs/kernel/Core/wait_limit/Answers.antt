use Rattle.std.proofs.Common.{arith, ◌≡◌}
use Rattle.fleet_grid.specs.Counts.{floor_count}
use Rattle.fleet_grid.specs.Floor.{IsNeighbour}
use Rattle.fleet_grid.specs.Walk.{IsBridgeless}
use Rattle.fleet_history.specs.History.{history_of, robots}
use Rattle.fleet_bound.specs.Idle.{idle_within}
use Rattle.fleet_bound.proofs.Limits.{limit-exact, limit-above}
use Rattle.fleet_bound.proofs.Roomy.{bound-bridgeless}
use Rattle.fleet_bound.proofs.TickCounts.{within-told}
use Rattle.fleet_state.proofs.Parts.{robots-few}
use Rattle.fleet_core.proofs.WaitBound.{plain-kept, waits-kept}
use Rattle.fleet_core.proofs.kernel.Core.wait_limit.Goals as goal
use Rattle.fleet_core.proofs.kernel.Core.wait_limit.Goals.{After-idle_within}

robots_is : (g : _) (c : After-idle_within g) → c.robots.result ≡ robots (history_of c.self.inside.chapter)
robots_is g c = c.robots.ensures.of c.self.inside.grid (history_of c.self.inside.chapter) c.self.invariant.is

told_is : (g : _) (c : After-idle_within g) → c.idle_within.result ≡ idle_within c.self.inside.planner.planner.bridgeless 1 c.robots.result (floor_count c.self.inside.grid)
told_is g c = rw (c.is_bridgeless.ensures, c.floor_count.ensures) at c.idle_within.ensures

pub idle_within-requires-clause-few : goal.idle_within-requires-clause-few
idle_within-requires-clause-few g c = omega (arith, c.robots.ensures.count, robots-few c.self.invariant.is)

pub returns-clause-told : goal.returns-clause-told
returns-clause-told g c = rw (← c.self.view_is)
    (within-told (IsBridgeless (IsNeighbour c.self.inside.grid)) c.self.inside.planner.planner.bridgeless 1 c.robots.result (floor_count c.self.inside.grid) c.idle_within.result c.self.invariant.aimed.bridge (told_is g c))

pub returns-clause-exact : goal.returns-clause-exact
returns-clause-exact g c = rw (← c.self.view_is)
    (limit-exact c.self.inside.planner.planner.bridgeless c.robots.result (robots (history_of c.self.inside.chapter)) (floor_count c.self.inside.grid) c.idle_within.result (robots_is g c) (told_is g c))

pub returns-clause-above : goal.returns-clause-above
returns-clause-above g c = rw (← c.self.view_is)
    (let h = history_of c.self.inside.chapter in
    let told = within-told (IsBridgeless (IsNeighbour c.self.inside.grid)) c.self.inside.planner.planner.bridgeless 1 c.robots.result (floor_count c.self.inside.grid) c.idle_within.result c.self.invariant.aimed.bridge (told_is g c) in
    limit-above c.self.inside.grid h c.idle_within.result
    (limit-exact c.self.inside.planner.planner.bridgeless c.robots.result (robots h) (floor_count c.self.inside.grid) c.idle_within.result (robots_is g c) (told_is g c))
    (λ some. waits-kept c.self.invariant (plain-kept c.self.invariant (told.0 some)) (bound-bridgeless c.self.inside.grid h (told.0 some))))
