use Rattle.std.proofs.Common.{rules, ◌≡◌, ◌∷◌, ◌++◌, [], sym, subst, arith}
use Rattle.fleet_office.specs.Views.{AreOn, cores}
use Rattle.fleet_office.proofs.Guests.{on_push}
use Rattle.fleet_serve.specs.Posted.{HasCounted, AllHaveRun}
use Rattle.fleet_serve.proofs.Counts.{run-nobody, run-push}
use Rattle.fleet_serve.proofs.served_client.clients_of.Goals as goal

pub loop-one-init : goal.loop-one-init
loop-one-init g c =
    let none : c.in_ok-clients.clients.items ≡ [] = c.in_ok-clients.ensures.items in (
      subst (λ xs. AreOn g.N.OfficeName.rings (cores xs)) (sym none) (λ k x at. cc),
      subst (λ xs. AllHaveRun g.N.ScriptName.events g.N.ScriptName.orders xs 0) (sym none) (run-nobody g.N.ScriptName.events g.N.ScriptName.orders),
      search rules,
    )

pub loop-one-preserved : goal.loop-one-preserved
loop-one-preserved g c =
    let rings = g.N.OfficeName.rings in
    let events = g.N.ScriptName.events in
    let most = g.N.ScriptName.orders in
    let x = c.into_client.result in
    let full = c.saturating_add-lane_full in
    let items : c.push_reserved.new.self.items ≡ c.loop-one.clients.items ++ x ∷ [] = c.push_reserved.ensures.items in
    let own : HasCounted events most x c.lane_full.result =
    subst (λ z. HasCounted events most z c.lane_full.result) (sym c.into_client.ensures.same) (subst (λ n. HasCounted events most c.into_guest.result n) (sym c.lane_full.ensures) c.into_guest.ensures.ran) in (
      subst (λ xs. AreOn rings (cores xs)) (sym items) (on_push rings c.loop-one.clients.items x c.loop-one.invariant.0 c.into_client.ensures.on),
      subst (λ xs. AllHaveRun events most xs full.result) (sym items) (run-push events most c.loop-one.clients.items x c.loop-one.lane_full c.lane_full.result full.result full.ensures c.loop-one.invariant.1 own),
      omega (arith, c.push_reserved.ensures.len, c.push_reserved.ensures.capacity, c.in-Some.ensures.steps.1, c.loop-one.invariant.2),
    )

pub push_reserved-requires : goal.push_reserved-requires
push_reserved-requires g c = omega (arith, c.in-Some.ensures.steps.1, c.loop-one.invariant.2)
