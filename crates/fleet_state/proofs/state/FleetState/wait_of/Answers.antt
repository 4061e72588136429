use Rattle.std.proofs.Common.{◌∙◌, arith}
use Rattle.fleet_state.proofs.Parts.{inside, queue-count, wait-of}
use Rattle.fleet_state.proofs.state.FleetState.wait_of.Goals as goal

pub returns : goal.returns
returns g c m h k = c.wait_of.ensures ∙ wait-of (inside c.self.view_is k) c.args.robot (omega (arith, c.requires, queue-count k))
