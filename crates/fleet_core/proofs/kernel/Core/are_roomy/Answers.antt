-- The queues hold what the history leaves unfinished.
use Rattle.std.proofs.Common.{arith}
use Rattle.fleet_history.specs.History.{history_of}
use Rattle.fleet_state.proofs.Parts.{robots-few}
use Rattle.fleet_core.proofs.RoomFacts.{roomy-told}
use Rattle.fleet_core.proofs.kernel.Core.are_roomy.Goals as goal

pub returns : goal.returns
returns g c =
    let m = c.self.inside.grid in
    let h = history_of c.self.inside.chapter in
    let same = c.robots.ensures.of m h c.self.invariant.is in
    rw (← c.self.view_is)
    (roomy-told m h c.args.roominess.now c.queues.result.now c.robots.result c.all_have_room.result c.self.invariant.is.legal
    (omega (arith, same, c.robots.ensures.count, robots-few c.self.invariant.is)) same (c.queues.ensures.of m h c.self.invariant.is) c.all_have_room.ensures)
