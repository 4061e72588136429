use Rattle.std.proofs.Common.{take}
use Rattle.fleet_serve.proofs.Runs.{counted-none, run-next, run-all}
use Rattle.fleet_serve.proofs.shift.Shift.run.Goals as goal

pub loop-at-init : goal.loop-at-init
loop-at-init g c = counted-none g.N.ScriptName.orders c.into_guest-guest.result record { sent = c.into_guest-guest.ensures.fresh; orders = c.into_guest-guest.ensures.orders }

pub loop-at-preserved : goal.loop-at-preserved
loop-at-preserved g c =
    let events = c.args.self.now.events.now in
    run-next events g.N.ScriptName.orders c.run_line-lane_full.new.guest c.loop-at.at _ c.run_line-lane_full.result c.loop-at-test.true
    (c.run_line-lane_full.ensures (take c.loop-at.at events) c.loop-at.invariant)

pub new-requires : goal.new-requires
new-requires g c =
    run-all c.args.self.now.events.now g.N.ScriptName.events g.N.ScriptName.orders c.loop-at.guest c.loop-at.at c.loop-at.lane_full c.loop-at-test.false c.args.self.now.named c.loop-at.invariant
