use Rattle.std.proofs.Common.{◌∙◌}
use Rattle.fleet_state.proofs.Parts.{inside, tally-count}
use Rattle.fleet_state.proofs.state.FleetState.clients.Goals as goal

pub returns-clause-of : goal.returns-clause-of
returns-clause-of g c m h k = c.len.ensures ∙ tally-count (inside c.self.view_is k)
