use Rattle.std.proofs.Common.{◌≡◌, ◌∷◌, length, sym, subst, ap, ◌∙◌, arith}
use Rattle.std.specs.Vec.Iter.{into_iter_items}
use Rattle.fleet_office.specs.Views.{AreOn, cores}
use Rattle.fleet_office.proofs.Guests.{on_push, moves_on, all_moved}
use Rattle.fleet_office.proofs.guest.clients_of.Goals as goal

pub push_reserved-requires : goal.push_reserved-requires
push_reserved-requires g c = omega (arith, c.in-Some.ensures.steps.1, c.loop-guest.invariant.3)

pub loop-guest-preserved : goal.loop-guest-preserved
loop-guest-preserved g c =
    let at = c.loop-guest in
    let i = at.invariant in
    let s = c.in-Some.ensures.steps in
    let steps : into_iter_items at.guest-iterator ≡ c.in-Some.guest ∷ into_iter_items c.next.new.self = s.0 in
    let client = c.into_client.result in
    let p = c.push_reserved.ensures in (
      subst (λ xs. AreOn g.N.OfficeName.rings (cores xs)) (sym p.items) (on_push g.N.OfficeName.rings at.clients.items client i.0 c.into_client.ensures.on),
      moves_on at.clients.items c.push_reserved.new.self.items (into_iter_items at.guest-iterator) (into_iter_items c.next.new.self) c.args.guests.items c.in-Some.guest client steps c.into_client.ensures.same p.items i.1,
      omega (arith, s.1, ap length steps, i.2),
      omega (arith, s.1, p.len, p.capacity, i.3),
    )

pub returns-clause-on : goal.returns-clause-on
returns-clause-on g c = c.loop-guest.invariant.0

pub returns-clause-all : goal.returns-clause-all
returns-clause-all g c =
    let at = c.loop-guest in
    all_moved at.clients.items (into_iter_items at.guest-iterator) c.args.guests.items (sym at.invariant.2 ∙ c.in-None.ensures.steps.0) at.invariant.1
