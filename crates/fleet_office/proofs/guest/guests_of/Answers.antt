use Rattle.std.proofs.Common.{◌≡◌, ◌∷◌, length, sym, ap, ◌∙◌, arith}
use Rattle.std.specs.Vec.Iter.{into_iter_items}
use Rattle.fleet_office.proofs.Guests.{on_head, on_tail, moves_on, all_moved}
use Rattle.fleet_office.proofs.guest.guests_of.Goals as goal

pub new-requires : goal.new-requires
new-requires g c =
    let at = c.loop-client in
    on_head g.N.OfficeName.rings (into_iter_items at.client-iterator) (into_iter_items c.next.new.self) c.in-Some.client c.in-Some.ensures.steps.0 at.invariant.0

pub push_reserved-requires : goal.push_reserved-requires
push_reserved-requires g c = omega (arith, c.in-Some.ensures.steps.1, c.loop-client.invariant.3)

pub loop-client-preserved : goal.loop-client-preserved
loop-client-preserved g c =
    let at = c.loop-client in
    let i = at.invariant in
    let s = c.in-Some.ensures.steps in
    let steps : into_iter_items at.client-iterator ≡ c.in-Some.client ∷ into_iter_items c.next.new.self = s.0 in
    let p = c.push_reserved.ensures in (
      on_tail g.N.OfficeName.rings (into_iter_items at.client-iterator) (into_iter_items c.next.new.self) c.in-Some.client steps i.0,
      moves_on at.guests.items c.push_reserved.new.self.items (into_iter_items at.client-iterator) (into_iter_items c.next.new.self) c.args.clients.items c.in-Some.client c.new.result steps c.new.ensures p.items i.1,
      omega (arith, s.1, ap length steps, i.2),
      omega (arith, s.1, p.len, p.capacity, i.3),
    )

pub returns-clause-all : goal.returns-clause-all
returns-clause-all g c =
    let at = c.loop-client in
    all_moved at.guests.items (into_iter_items at.client-iterator) c.args.clients.items (sym at.invariant.2 ∙ c.in-None.ensures.steps.0) at.invariant.1
