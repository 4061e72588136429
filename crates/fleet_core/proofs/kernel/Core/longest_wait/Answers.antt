use Rattle.std.proofs.Common.{◌≡◌}
use Rattle.fleet_core.proofs.WaitBound.{eldest-known, eldest-waits}
use Rattle.fleet_core.proofs.kernel.Core.longest_wait.Goals as goal

pub wait_of-requires : goal.wait_of-requires
wait_of-requires g c = eldest-known c.args.self.now.history c.in_ok-eldest.field-0 c.in_ok-eldest.ensures

pub returns : goal.returns
returns g c = eldest-waits c.args.self.now.history c.in_ok-eldest.field-0 c.wait_of.result c.in_ok-eldest.ensures c.wait_of.ensures.wait
