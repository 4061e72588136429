use Rattle.std.proofs.Common.{◌∙◌, arith, ap}
use Rattle.fleet_state.specs.declared.clients.Tally.{Tally}
use Rattle.fleet_state.proofs.Parts.{inside, tally-count, tally-of}
use Rattle.fleet_state.proofs.state.FleetState.taken.Goals as goal

pub returns : goal.returns
returns g c m h k = ap (λ (t : Tally). t.taken) (c.tally.ensures ∙ tally-of (inside c.self.view_is k) c.args.client (omega (arith, c.requires, tally-count k)))
