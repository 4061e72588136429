use Rattle.std.proofs.Common.{◌<◌, ◌≤◌, arith, ⊎_elim}
use Rattle.std.proofs.lemmas.Bool.{cases_lt}
use Rattle.fleet_office.proofs.Places.{from_first, there_is}
use Rattle.fleet_office.proofs.homing.missing.Goals as goal

pub loop-c-preserved : goal.loop-c-preserved
loop-c-preserved g c = λ n less.
    ⊎_elim
    (λ (h : n < c.loop-c.c). c.loop-c.invariant n h)
    (λ (h : c.loop-c.c ≤ n).
    let e = c.in-Some.ensures.some in
    let at = there_is c.args.clients.now c.in-Some._place e.1 in
    (c.in-Some._place, at.0, at.1, omega (arith, e.2 at.0 at.1)))
    (cases_lt n c.loop-c.c)

pub loop-c-init : goal.loop-c-init
loop-c-init g c = λ n less. absurd (omega (arith, less))

pub returns-in_default-clause-some : goal.returns-in_default-clause-some
returns-in_default-clause-some g c = (c.loop-c-test.true, λ k x at. c.in_default.ensures.none k x (from_first k) at)

pub loop-c-smaller : goal.loop-c-smaller
loop-c-smaller g c = omega (arith, c.loop-c-test.true)

pub returns-clause-none : goal.returns-clause-none
returns-clause-none g c = λ n less. c.loop-c.invariant n (omega (arith, less, c.loop-c-test.false))
