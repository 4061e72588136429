use Rattle.std.proofs.Common.{◌≡◌}
use Rattle.fleet_history.specs.History.{history_of}
use Rattle.fleet_planner.specs.Planned.{waits}
use Rattle.fleet_planner.proofs.GoalsKept.{idle-is}
use Rattle.fleet_core.proofs.kernel.Core.is_idle.Goals as goal

pub returns : goal.returns
returns g c =
    let h = history_of c.self.inside.chapter in
    let same : c.waits.result.now ≡ waits h = c.waits.ensures.of c.self.inside.grid h c.self.invariant.is in
    let idle = idle-is h c.waits.result.now same in
    rw (← c.self.view_is) (λ t. idle.0 (c.is_nobody.ensures.0 t), λ i. c.is_nobody.ensures.1 (idle.1 i))
