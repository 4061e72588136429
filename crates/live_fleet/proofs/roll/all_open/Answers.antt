-- The errands of one more client.
use Rattle.std.proofs.Common.{List}
use Rattle.fleet_core.specs.OpenErrands.{open_errands}
use Rattle.live_fleet.proofs.Rolls.{open-more}
use Rattle.live_fleet.proofs.roll.all_open.Goals as goal

pub loop-client-preserved : goal.loop-client-preserved
loop-client-preserved g c =
    open-more (open_errands c.args.session.now.world.core.history) c.loop-client.client c.loop-client.all.items c.extend_from_slice.new.self.items c.deref.result.now c.in_ok-more.more.items c.loop-client.invariant c.in_ok-extend_from_slice.ensures.items
    c.deref.ensures.value c.in_ok-more.ensures
