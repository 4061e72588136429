-- The first client of those left, before its first line.
use Rattle.std.proofs.Common.{◌≡◌, [], arith, sym, subst}
use Rattle.std.specs.Vec.Iter.{into_iter_items}
use Rattle.fleet_office.proofs.Guests.{on_head, on_tail}
use Rattle.fleet_serve.proofs.Clients.{new-head, new-tail}
use Rattle.fleet_serve.proofs.new_client.new_clients_of.Goals as goal

pub new-guest-requires : goal.new-guest-requires
new-guest-requires g c =
    let at = c.loop-client in
    on_head g.N.OfficeName.rings (into_iter_items at.client-iterator) (into_iter_items c.next.new.self) c.in-Some.client c.in-Some.ensures.steps.0 at.invariant.0

pub new-new_client-requires-clause-fresh : goal.new-new_client-requires-clause-fresh
new-new_client-requires-clause-fresh g c =
    let at = c.loop-client in
    let new = new-head g.N.ScriptName.orders (into_iter_items at.client-iterator) (into_iter_items c.next.new.self) c.in-Some.client c.in-Some.ensures.steps.0 at.invariant.1 in
    subst (λ x. x.sent ≡ []) (sym c.new-guest.ensures) new.sent

pub new-new_client-requires-clause-orders : goal.new-new_client-requires-clause-orders
new-new_client-requires-clause-orders g c =
    let at = c.loop-client in
    let new = new-head g.N.ScriptName.orders (into_iter_items at.client-iterator) (into_iter_items c.next.new.self) c.in-Some.client c.in-Some.ensures.steps.0 at.invariant.1 in
    subst (λ x. x.orders ≡ g.N.ScriptName.orders) (sym c.new-guest.ensures) new.orders

pub push_reserved-requires : goal.push_reserved-requires
push_reserved-requires g c = omega (arith, c.in-Some.ensures.steps.1, c.loop-client.invariant.2)

pub loop-client-preserved : goal.loop-client-preserved
loop-client-preserved g c =
    let at = c.loop-client in
    let s = c.in-Some.ensures.steps in
    let p = c.push_reserved.ensures in (
      on_tail g.N.OfficeName.rings (into_iter_items at.client-iterator) (into_iter_items c.next.new.self) c.in-Some.client s.0 at.invariant.0,
      new-tail g.N.ScriptName.orders (into_iter_items at.client-iterator) (into_iter_items c.next.new.self) c.in-Some.client s.0 at.invariant.1,
      omega (arith, s.1, p.len, p.capacity, at.invariant.2),
    )
