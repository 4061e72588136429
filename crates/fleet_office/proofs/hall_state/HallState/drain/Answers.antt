use Rattle.std.proofs.Common.{◌≡◌, ◌-◌, ◌<◌, ◌∙◌, Result, Ok, Err, length, ap, subst, arith}
use Rattle.std.specs.Prelude.{OnErr}
use Rattle.std.proofs.lemmas.Result.{IfOk-from_err}
use Rattle.fleet_office.specs.Views.{OthersStay}
use Rattle.fleet_core.specs.declared.faults.TakeFault.{TakeFault}
use Rattle.fleet_office.specs.inside.Lanes.{DrainsLane}
use Rattle.fleet_office.proofs.Emptied.{others_trans, left_step, left_end, Left, some_none, some_more, some_refused}
use Rattle.fleet_office.proofs.hall_state.HallState.drain.Goals as goal

pub loop-taken-init : goal.loop-taken-init
loop-taken-init g c =
    let b = c.beside-left.ensures in
    let n : c.number-number.result ≡ c.args.client.now.number = c.number-number.ensures ∙ ap (λ x. x.number) b.client in
    rw n (
      b.others,
      b.world.1,
      b.there,
      λ e at. let m = b.met e at in (m.0, m.1, omega (arith, m.2)),
      some_none c.args.self.now.world c.beside-left.new.self.world c.args.client.now.number c.beside-left.result b.world.0,
    )

pub loop-taken-preserved : goal.loop-taken-preserved
loop-taken-preserved g c =
    let i = c.loop-taken.invariant in
    let n = c.number-number.result in
    let k = c.loop-taken.taken in
    let left = c.beside-left.result in
    let e = c.in_ok-take_left.ensures in
    let less : k < left = c.loop-taken-test.true in (
      others_trans n c.args.self.now.ends c.loop-taken.self.ends c.take_left.new.self.ends i.0 c.take_left.ensures.others,
      c.take_left.ensures.total ∙ i.1,
      omega (arith, i.2, e.ok.others.count),
      left_step n c.loop-taken.self.ends c.take_left.new.self.ends c.beside-left.new.client k left i.2 e.ok i.3,
      some_more c.args.self.now.world c.loop-taken.self.world c.take_left.new.self.world n left k (left - k) (omega (arith, c.take_left.ensures.boxed, i.4.drains.box_count)) (omega (arith, less)) i.4 e.next e.used,
    )

pub returns-clause-ok : goal.returns-clause-ok
returns-clause-ok g c =
    let i = c.loop-taken.invariant in
    left_end c.loop-taken.self.ends c.beside-left.new.client c.loop-taken.taken c.beside-left.result (omega arith)
    (subst (λ k. Left k c.loop-taken.self.ends c.beside-left.new.client c.loop-taken.taken c.beside-left.result) c.number-number.ensures i.3)

pub overflow_sub-left : goal.overflow_sub-left
overflow_sub-left g c = omega (arith, c.loop-taken-test.true)

pub take_left-requires-clause-client : goal.take_left-requires-clause-client
take_left-requires-clause-client g c = c.loop-taken.invariant.2

pub take_left-requires-clause-known : goal.take_left-requires-clause-known
take_left-requires-clause-known g c = λ e at. omega (arith, c.loop-taken-test.true, (c.loop-taken.invariant.3 e at).2)

pub take_left-requires-clause-some : goal.take_left-requires-clause-some
take_left-requires-clause-some g c = omega (arith, c.loop-taken-test.true)

pub returns-in_err-take_left-clause-client : goal.returns-in_err-take_left-clause-client
returns-in_err-take_left-clause-client g c = c.beside-left.ensures.client

pub returns-in_err-take_left-clause-total : goal.returns-in_err-take_left-clause-total
returns-in_err-take_left-clause-total g c = c.take_left.ensures.total ∙ c.loop-taken.invariant.1

pub returns-clause-client : goal.returns-clause-client
returns-clause-client g c = c.beside-left.ensures.client

pub returns-clause-others : goal.returns-clause-others
returns-clause-others g c =
    let n : c.number-number.result ≡ c.args.client.now.number = c.number-number.ensures ∙ ap (λ x. x.number) c.beside-left.ensures.client in
    subst (λ m. OthersStay m c.args.self.now.ends c.loop-taken.self.ends) n c.loop-taken.invariant.0

pub returns-clause-drains : goal.returns-clause-drains
returns-clause-drains g c =
    let n : c.number-number.result ≡ c.args.client.now.number = c.number-number.ensures ∙ ap (λ x. x.number) c.beside-left.ensures.client in
    let i = c.loop-taken.invariant.4 in
    let all : length i.drains.more ≡ c.beside-left.result = omega (arith, i.count, c.loop-taken-test.false, c.loop-taken.auto.taken-end) in
    let lane : DrainsLane {E = TakeFault} c.args.self.now.world c.number-number.result c.beside-left.result c.loop-taken.self.world (Ok tt) = (i.drains, all, tt) in
    (c.beside-left.result, c.beside-left.ensures.left, subst (λ m. DrainsLane {E = TakeFault} c.args.self.now.world m c.beside-left.result c.loop-taken.self.world (Ok tt)) n lane)

on_err : {X E P : Type 0} (r : Result X E) → P → OnErr r P
on_err (Ok x) p = tt
on_err (Err e) p = p

pub returns-in_err-take_left-clause-drains : goal.returns-in_err-take_left-clause-drains
returns-in_err-take_left-clause-drains g c =
    let n : c.number-number.result ≡ c.args.client.now.number = c.number-number.ensures ∙ ap (λ x. x.number) c.beside-left.ensures.client in
    let i = c.loop-taken.invariant.4 in
    let k = c.loop-taken.taken in
    let left = c.beside-left.result in
    let less : k < left = c.loop-taken-test.true in
    let r = c.from_residual.result in
    let w = c.args.self.now.world in
    let v = c.take_left.new.self.world in
    let d = some_refused w c.loop-taken.self.world v c.number-number.result left k (left - k) (omega (arith, c.take_left.ensures.boxed, i.drains.box_count)) (omega (arith, less)) less i c.in_err-take_left.ensures.err in
    let lane : DrainsLane w c.number-number.result left v r = (d.0, IfOk-from_err r _ c.from_residual.ensures.0, on_err r d.1) in
    (left, c.beside-left.ensures.left, subst (λ m. DrainsLane w m left v r) n lane)

pub returns-clause-total : goal.returns-clause-total
returns-clause-total g c = c.loop-taken.invariant.1
