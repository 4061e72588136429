-- No wait of a chapter within the bound reaches the limit.
use Rattle.std.proofs.Common.{arith, Some}
use Rattle.fleet_grid.specs.Counts.{floor_count}
use Rattle.fleet_history.specs.History.{history_of, robots}
use Rattle.fleet_bound.proofs.Limits.{limit-above}
use Rattle.fleet_state.proofs.Parts.{robots-few}
use Rattle.fleet_core.proofs.RoomFacts.{limit-is}
use Rattle.fleet_core.proofs.WaitBound.{waits-kept}
use Rattle.fleet_core.proofs.kernel.Core.roomy_wait_limit.Goals as goal

pub idle_ticks-requires-clause-few : goal.idle_ticks-requires-clause-few
idle_ticks-requires-clause-few g c = omega (arith, c.robots.ensures.count, robots-few c.self.invariant.is)

pub returns-clause-above : goal.returns-clause-above
returns-clause-above g c =
    let m = c.self.inside.grid in
    let h = history_of c.self.inside.chapter in
    rw (← c.self.view_is)
    (λ none has. limit-above m h (Some c.idle_ticks.result)
    (limit-is c.idle_ticks.result c.robots.result c.floor_count.result (robots h) (floor_count m) c.idle_ticks.ensures (c.robots.ensures.of m h c.self.invariant.is) c.floor_count.ensures)
    (λ some. waits-kept c.self.invariant none has))
