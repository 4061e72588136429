use Rattle.std.proofs.Common.{◌≤◌, subst, refl, length, arith, List}
use borrow.Author.Count.{below_more}
use Rattle.std.specs.List.{slice_index_or}
use Rattle.fleet_history.specs.declared.history.ClientState.{ClientState}
use Rattle.fleet_history.specs.History.{unknown_client}
use Rattle.fleet_history.specs.Legal.{IsClientInOrder, owed_at}
use Rattle.fleet_trace.specs.inside.Opened.{AreClientNamesInOrder, owed_in}
use Rattle.fleet_trace.proofs.OpeningOrder.{owed-few, client_fine, names_fine}
use Rattle.fleet_trace.proofs.OpeningParts.{client_out, names_out}
use Rattle.fleet_trace.proofs.judging.clients.client_fault.Goals as goal

pub owed_of-requires : goal.owed_of-requires
owed_of-requires g c =
    owed-few c.args.opening.now c.as_slice-robots.result.now c.as_slice-clients.result.now c.loop-c.c (owed_in c.as_slice-robots.result.now c.loop-c.c) c.as_slice-robots.ensures c.as_slice-clients.ensures refl c.requires.owed

pub is_client_in_order-requires : goal.is_client_in_order-requires
is_client_in_order-requires g c =
    owed-few c.args.opening.now c.as_slice-robots.result.now c.as_slice-clients.result.now c.loop-c.c c.owed_of.result c.as_slice-robots.ensures c.as_slice-clients.ensures c.owed_of.ensures c.requires.owed

pub returns-then-not-is_client_in_order : goal.returns-then-not-is_client_in_order
returns-then-not-is_client_in_order g c =
    client_out c.args.opening.now c.as_slice-robots.result.now c.as_slice-clients.result.now c.loop-c.c c.owed_of.result c.as_slice-robots.ensures c.as_slice-clients.ensures c.owed_of.ensures c.loop-c-test.true
    c.loop-c.invariant.clients c.loop-c.invariant.names c.is_client_in_order.result c.if-not-is_client_in_order.true c.is_client_in_order.ensures

pub returns-then-not-branch : goal.returns-then-not-branch
returns-then-not-branch g c =
    names_out c.args.opening.now c.as_slice-robots.result.now c.as_slice-clients.result.now c.loop-c.c c.owed_of.result c.as_slice-robots.ensures c.as_slice-clients.ensures c.owed_of.ensures c.loop-c-test.true
    c.loop-c.invariant.clients c.loop-c.invariant.names (c.is_client_in_order.ensures.0 c.if-not-is_client_in_order.false) c.in_ok-are_names_in_order.field-0 c.if-not-branch.true c.in_ok-are_names_in_order.ensures

pub loop-c-preserved : goal.loop-c-preserved
loop-c-preserved g c =
    let o = c.args.opening.now in
    let i = c.loop-c.c in
    record {
      clients = below_more (λ k. IsClientInOrder o.life (owed_at o k) (slice_index_or o.clients k unknown_client)) i c.loop-c.invariant.clients
          (client_fine o c.as_slice-robots.result.now c.as_slice-clients.result.now i c.owed_of.result c.as_slice-robots.ensures c.as_slice-clients.ensures c.owed_of.ensures (c.is_client_in_order.ensures.0 c.if-not-is_client_in_order.false));
      names = below_more (λ k. AreClientNamesInOrder o.robots k) i c.loop-c.invariant.names
          (names_fine o c.as_slice-robots.result.now c.as_slice-clients.result.now i c.owed_of.result c.as_slice-robots.ensures c.as_slice-clients.ensures c.owed_of.ensures (c.in_ok-are_names_in_order.ensures.0 c.if-not-branch.false));
    }

pub returns : goal.returns
returns g c =
    let all = subst (λ (xs : List ClientState). length xs ≤ c.loop-c.c) c.as_slice-clients.ensures c.loop-c-test.false in
    record {
      clients = λ k less. c.loop-c.invariant.clients k (omega (arith, less, all));
      names = λ k less. c.loop-c.invariant.names k (omega (arith, less, all));
    }
