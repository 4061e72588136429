-- The ticks of the longest queue, where all errands that are unfinished are roomy.
use Rattle.std.proofs.Common.{arith, ◌≡◌, ◌∙◌, ap}
use Rattle.fleet_grid.specs.Counts.{floor_count}
use Rattle.fleet_history.specs.History.{history_of, robots}
use Rattle.fleet_bound.specs.Idle.{idle_ticks, longest_queue, longest_after}
use Rattle.fleet_bound.proofs.Longest.{longest-room}
use Rattle.fleet_state.proofs.Parts.{robots-few}
use Rattle.fleet_core.proofs.RoomFacts.{idle-told, ticks-are}
use Rattle.fleet_core.proofs.kernel.Core.roomy_within.Goals as goal
use Rattle.fleet_core.proofs.kernel.Core.roomy_within.Goals.{After-idle_ticks}

ticks_is : (g : _) (c : After-idle_ticks g) → c.idle_ticks.result ≡ idle_ticks (longest_after c.args.self.now.history) (robots c.args.self.now.history) (floor_count c.args.self.now.floor)
ticks_is g c =
    let m = c.self.inside.grid in
    let h = history_of c.self.inside.chapter in
    rw (← c.self.view_is)
    (ticks-are c.idle_ticks.result c.longest_queue-longest.result c.robots.result c.floor_count.result (longest_after h) (robots h) (floor_count m) c.idle_ticks.ensures
    (c.longest_queue-longest.ensures ∙ ap longest_queue (c.queues.ensures.of m h c.self.invariant.is)) (c.robots.ensures.of m h c.self.invariant.is) c.floor_count.ensures)

pub idle_ticks-requires-clause-queued : goal.idle_ticks-requires-clause-queued
idle_ticks-requires-clause-queued g c =
    let h = history_of c.self.inside.chapter in
    omega (arith, c.longest_queue-longest.ensures ∙ ap longest_queue (c.queues.ensures.of c.self.inside.grid h c.self.invariant.is), longest-room c.self.inside.grid h c.self.invariant.is.legal)

pub idle_ticks-requires-clause-few : goal.idle_ticks-requires-clause-few
idle_ticks-requires-clause-few g c = omega (arith, c.robots.ensures.count, robots-few c.self.invariant.is)

pub returns-clause-exact : goal.returns-clause-exact
returns-clause-exact g c = ticks_is g c

pub returns-clause-idle : goal.returns-clause-idle
returns-clause-idle g c =
    idle-told c.args.self.now.floor c.args.self.now.ties c.args.self.now.history c.args.roominess.now c.are_roomy.result c.idle_ticks.result c.if-not-are_roomy.false c.are_roomy.ensures (ticks_is g c)
