use Rattle.std.proofs.Common.{ℕ, List, ◌≡◌, ◌∙◌, ap, length, refl, subst, arith, sym}
use Rattle.fleet_lanes.specs.Ends.{EndView}
use Rattle.fleet_office.specs.Draining.{AreLeft, DrainsFirst}
use Rattle.fleet_office.proofs.Settling.{StayFrom, stay_all, stay_next, left_before, settled_next, settled_all, first_more}
use Rattle.std.proofs.lemmas.Result.{IfOk-from_err, err_from_is_err_and}
use Rattle.fleet_office.specs.Views.{ClientCore, cores, AreOn, AreDistinct}
use Rattle.std.specs.Prelude.{Ok, Err, Result, OnOk, OnErr}
use Rattle.fleet_office.proofs.Never.{not_refused}
use Rattle.fleet_office.proofs.hall_state.HallState.drain_all.Goals as goal

-- the orders that are left, of the hall ends and the clients at the beginning
left_then : {A : Type 0} (old now : List (EndView A)) (was cs : List (ClientCore A)) (c n : ℕ) → cs ≡ was → StayFrom c old now → AreLeft now cs c n → AreLeft old was c n
left_then old now was cs c n same stay left = left_before old now was c n stay (subst (λ xs. AreLeft now xs c n) same left)

on_done : {X E P : Type 0} {x : X} (r : Result X E) → r ≡ Ok x → OnOk r P → P
on_done (Ok x) is p = p
on_done (Err e) is p = absurd cc

on_fault : {X E P : Type 0} {e : E} (r : Result X E) → r ≡ Err e → OnErr r P → P
on_fault (Ok x) is p = absurd cc
on_fault (Err e) is p = p

on_err : {X E P : Type 0} (r : Result X E) → P → OnErr r P
on_err (Ok x) p = tt
on_err (Err e) p = p

pub loop-number-preserved : goal.loop-number-preserved
loop-number-preserved g c =
    let i = c.loop-number.invariant in
    let e = c.drain_number.ensures in
    let n = c.loop-number.number in (
      e.clients ∙ i.0,
      e.total ∙ i.1,
      settled_next c.loop-number.self.ends c.drain_number.new.self.ends c.loop-number.clients c.drain_number.new.clients n e.others e.kept c.in_ok-drain_number.ensures.ok i.2,
      stay_next n c.args.self.now.ends c.loop-number.self.ends c.drain_number.new.self.ends i.3 e.others,
      first_more c.args.self.now.ends (cores c.args.clients.now) c.args.self.now.world c.loop-number.self.world c.drain_number.new.self.world n e.drains.0
          (left_then c.args.self.now.ends c.loop-number.self.ends (cores c.args.clients.now) (cores c.loop-number.clients) n e.drains.0 i.0 i.3 e.drains.1) i.4 e.drains.2.0
          (on_done c.drain_number.result c.in_ok-drain_number.was e.drains.2.1),
    )

pub returns-clause-ok : goal.returns-clause-ok
returns-clause-ok g c =
    let i = c.loop-number.invariant in
    settled_all g.N.OfficeName.rings c.loop-number.self.ends c.loop-number.clients c.args.clients.now c.loop-number.number (omega (arith, c.loop-number-test.false, c.ring_count-number-end.ensures)) i.0 c.requires.on i.2

pub loop-number-init : goal.loop-number-init
loop-number-init g c = (refl, refl, (λ k x less at. absurd (omega (arith, less))), stay_all c.args.self.now.ends, refl)

pub returns-clause-drains : goal.returns-clause-drains
returns-clause-drains g c =
    let i = c.loop-number.invariant in
    let all : c.loop-number.number ≡ length g.N.OfficeName.rings = omega (arith, c.loop-number-test.false, c.loop-number.auto.number-end, c.ring_count-number-end.ensures) in
    subst (λ n. DrainsFirst n c.args.self.now.ends (cores c.args.clients.now) c.args.self.now.world c.loop-number.self.world) all i.4

pub drain_number-requires-clause-on : goal.drain_number-requires-clause-on
drain_number-requires-clause-on g c = subst (AreOn g.N.OfficeName.rings) (sym c.loop-number.invariant.0) c.requires.on

pub drain_number-requires-clause-distinct : goal.drain_number-requires-clause-distinct
drain_number-requires-clause-distinct g c = subst AreDistinct (sym c.loop-number.invariant.0) c.requires.distinct

pub returns-in_err-drain_number-clause-clients : goal.returns-in_err-drain_number-clause-clients
returns-in_err-drain_number-clause-clients g c = c.drain_number.ensures.clients ∙ c.loop-number.invariant.0

pub returns-in_err-drain_number-clause-drains : goal.returns-in_err-drain_number-clause-drains
returns-in_err-drain_number-clause-drains g c = IfOk-from_err c.from_residual.result _ c.from_residual.ensures.0

pub returns-in_err-drain_number-clause-total : goal.returns-in_err-drain_number-clause-total
returns-in_err-drain_number-clause-total g c = c.drain_number.ensures.total ∙ c.loop-number.invariant.1

pub returns-in_err-drain_number-clause-ok : goal.returns-in_err-drain_number-clause-ok
returns-in_err-drain_number-clause-ok g c = IfOk-from_err c.from_residual.result _ c.from_residual.ensures.0

pub loop-number-smaller : goal.loop-number-smaller
loop-number-smaller g c = omega (arith, c.loop-number-test.true)

pub returns-clause-clients : goal.returns-clause-clients
returns-clause-clients g c = c.loop-number.invariant.0

pub returns-clause-total : goal.returns-clause-total
returns-clause-total g c = c.loop-number.invariant.1

pub returns-in_err-drain_number-clause-stops : goal.returns-in_err-drain_number-clause-stops
returns-in_err-drain_number-clause-stops g c = on_err c.from_residual.result record {
  client = c.loop-number.number;
  known = omega (arith, c.loop-number-test.true, c.ring_count-number-end.ensures);
  mid = c.loop-number.self.world;
  left = c.drain_number.ensures.drains.0;
  counted = left_then c.args.self.now.ends c.loop-number.self.ends (cores c.args.clients.now) (cores c.loop-number.clients) c.loop-number.number c.drain_number.ensures.drains.0 c.loop-number.invariant.0 c.loop-number.invariant.3 c.drain_number.ensures.drains.1;
  before = c.loop-number.invariant.4;
  last = c.drain_number.ensures.drains.2.0;
  fewer = on_fault c.drain_number.result c.in_err-drain_number.was c.drain_number.ensures.drains.2.2;
}

pub returns-in_err-drain_number-clause-full : goal.returns-in_err-drain_number-clause-full
returns-in_err-drain_number-clause-full g c = λ e.
    let p = err_from_is_err_and c.from_residual.result c.from_residual.ensures.1 in
    c.drain_number.ensures.full (c.in_err-drain_number.was ∙ ap Err (sym p.2) ∙ sym p.1 ∙ e)

pub returns-clause-stops : goal.returns-clause-stops
returns-clause-stops g c = tt

pub returns-clause-full : goal.returns-clause-full
returns-clause-full g c = λ e. not_refused e
