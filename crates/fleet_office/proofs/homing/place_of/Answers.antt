use Rattle.std.proofs.Common.{◌≡◌, ◌<◌, ◌≤◌, arith, ⊎_elim, sym, ap, ◌∙◌, get_or}
use Rattle.std.proofs.lemmas.Bool.{cases_lt}
use Rattle.std.proofs.lemmas.Option.{get_or_from_slice_get}
use Rattle.fleet_office.proofs.Places.{within}
use Rattle.fleet_office.proofs.homing.place_of.Goals as goal

pub loop-k-init : goal.loop-k-init
loop-k-init g c = λ k x more less at. absurd (omega (arith, more, less))

pub loop-k-preserved : goal.loop-k-preserved
loop-k-preserved g c = λ k x more less at.
    let cs = c.args.clients.now in
    ⊎_elim
    (λ (h : k < c.loop-k.k). c.loop-k.invariant k x more h at)
    (λ (h : c.loop-k.k ≤ k).
    let kk : k ≡ c.loop-k.k = omega arith in
    λ same. c.if-number.false
    (c.number.ensures ∙ ap (λ z. z.number) c.index-clients-k.is ∙ ap (λ m. (get_or cs m c.index-clients-k.result).number) (sym kk) ∙ ap (λ z. z.number) (get_or_from_slice_get cs k x c.index-clients-k.result at) ∙ same))
    (cases_lt k c.loop-k.k)

pub returns-clause-none : goal.returns-clause-none
returns-clause-none g c = λ k x more at. c.loop-k.invariant k x more (let w = within c.args.clients.now k x at in omega arith) at

pub offset_bounds-clients-k : goal.offset_bounds-clients-k
offset_bounds-clients-k g c = omega (arith, c.loop-k-test.true)

pub bounds-clients-k : goal.bounds-clients-k
bounds-clients-k g c = c.loop-k-test.true

pub returns-then-number-clause-some : goal.returns-then-number-clause-some
returns-then-number-clause-some g c = (
  c.loop-k.auto.k,
  c.loop-k-test.true,
  λ x at. ap (λ z. z.number) (sym (get_or_from_slice_get c.args.clients.now c.loop-k.k x c.index-clients-k.result at) ∙ sym c.index-clients-k.is) ∙ sym c.number.ensures ∙ c.if-number.true,
)

pub loop-k-smaller : goal.loop-k-smaller
loop-k-smaller g c = omega (arith, c.loop-k-test.true)
