-- What is known of the clients, as far as they were told.
use Rattle.std.proofs.Common.{arith, refl}
use Rattle.std.proofs.lemmas.Result.{IfOk-from_err}
use Rattle.fleet_state.specs.Clients.{client_known}
use Rattle.fleet_state.proofs.Parts.{clients-few}
use Rattle.fleet_state.proofs.Ranges.{map-range_more}
use Rattle.fleet_state.proofs.state.FleetState.client_states.Goals as goal

pub overflow_cast-c : goal.overflow_cast-c
overflow_cast-c g c = omega (arith, clients-few c.self.invariant.is)

pub loop-c-preserved : goal.loop-c-preserved
loop-c-preserved g c = rw (c.in_ok-push.ensures.items, c.loop-c.invariant, map-range_more (client_known c.self.inside.clients) c.loop-c.c, c.state.ensures) refl

pub loop-c-init : goal.loop-c-init
loop-c-init g c = c.new-states.ensures.items

pub state-requires : goal.state-requires
state-requires g c = omega (arith, c.loop-c-test.true, c.len-c-end.ensures)

pub returns-in_err-push : goal.returns-in_err-push
returns-in_err-push g c = IfOk-from_err c.from_residual.result _ c.from_residual.ensures.0
