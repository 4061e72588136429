use Rattle.std.proofs.Common.{◌∙◌}
use Rattle.fleet_state.proofs.Parts.{inside, queue-count}
use Rattle.fleet_state.proofs.state.FleetState.robots.Goals as goal

pub returns-clause-of : goal.returns-clause-of
returns-clause-of g c m h k = c.len.ensures ∙ queue-count (inside c.self.view_is k)
