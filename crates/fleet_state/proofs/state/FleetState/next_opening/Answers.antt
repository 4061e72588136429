use Rattle.std.proofs.Common.{◌≡◌, ◌∙◌, sym, subst}
use Rattle.fleet_history.specs.History.{start}
use Rattle.fleet_history.specs.Next.{next_opening}
use Rattle.fleet_state.specs.inside.Next.{opening_in}
use Rattle.fleet_state.specs.State.{IsStateOf}
use Rattle.fleet_state.proofs.NextOpening.{next-is, opening-made, goes-on}
use Rattle.fleet_state.proofs.Parts.{tick-in}
use Rattle.fleet_state.proofs.state.FleetState.next_opening.Goals as goal

pub returns-clause-next : goal.returns-clause-next
returns-clause-next g c m h k e =
    opening-made c.args.self.now c.args.opening.now c.self.inside.tick c.from_vec.result c.from_vec-2.result (tick-in c.self.view_is) (c.from_vec.ensures ∙ c.in_ok-client_states.ensures) (c.from_vec-2.ensures ∙ c.in_ok-robot_states.ensures)
    ∙ subst (λ o. opening_in c.args.self.now o ≡ next_opening h) e (next-is k)

pub returns-clause-goes_on : goal.returns-clause-goes_on
returns-clause-goes_on g c m h k e room = subst (λ o. IsStateOf m (start o) c.args.self.now) (sym (returns-clause-next g c m h k e)) (goes-on k room)
