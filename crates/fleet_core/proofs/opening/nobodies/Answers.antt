use Rattle.std.proofs.Common.{◌∙◌, ◌+◌, ◌++◌, ◌∷◌, [], ℕ, List, replicate, ap, arith}
use Rattle.std.proofs.lemmas.List.{replicate_more}
use Rattle.std.proofs.lemmas.Result.{IfOk-from_err}
use Rattle.fleet_history.specs.declared.history.ClientState.{ClientState}
use Rattle.fleet_history.specs.History.{unknown_client}
use Rattle.fleet_core.proofs.opening.nobodies.Goals as goal

pub push_reserved-requires : goal.push_reserved-requires
push_reserved-requires g c = omega (arith, c.loop-i.invariant.len, c.loop-i.invariant.room, c.loop-i-test.true)

pub loop-i-preserved : goal.loop-i-preserved
loop-i-preserved g c = record {
  clients = c.push_reserved.ensures.items ∙ ap (λ (xs : List ClientState). xs ++ unknown_client ∷ []) c.loop-i.invariant.clients ∙ replicate_more c.loop-i._i unknown_client;
  len = c.push_reserved.ensures.len ∙ ap (λ (n : ℕ). n + 1) c.loop-i.invariant.len;
  room = omega (arith, c.push_reserved.ensures.capacity, c.loop-i.invariant.room);
}

pub loop-i-init : goal.loop-i-init
loop-i-init g c = record { clients = c.in_ok-clients.ensures.items; len = c.in_ok-clients.ensures.len; room = c.in_ok-clients.ensures.capacity }

pub returns-in_err-clients : goal.returns-in_err-clients
returns-in_err-clients g c = IfOk-from_err c.from_residual.result _ c.from_residual.ensures.0

pub returns : goal.returns
returns g c = c.loop-i.invariant.clients ∙ ap (λ (n : ℕ). replicate n unknown_client) (omega (arith, c.loop-i.auto._i-end, c.loop-i-test.false))
