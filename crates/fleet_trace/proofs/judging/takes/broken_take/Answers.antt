use Rattle.std.proofs.Common.{◌∙◌, ◌<◌, sym, subst, refl, inl, inr, arith, ℕ}
use Rattle.fleet_book.specs.declared.verdict.Verdict.{Verdict}
use Rattle.fleet_history.specs.Verdicts.{IsVerdict}
use Rattle.fleet_history.proofs.Places.{verdict-one}
use Rattle.fleet_trace.proofs.ErrandNames.{impossible}
use Rattle.fleet_trace.proofs.EntryByEntry.{placed}
use Rattle.fleet_trace.proofs.judging.takes.broken_take.Goals as goal

pub returns-then-client-clients : goal.returns-then-client-clients
returns-then-client-clients g c = λ h is. inl (refl, λ known. omega (arith, c.if-client-clients.true, c.clients.ensures.of c.args.grid.now h is, known))

pub judge-requires-clause-client : goal.judge-requires-clause-client
judge-requires-clause-client g c = subst (λ (n : ℕ). c.args.client < n) c.clients.ensures.count c.if-client-clients.false

pub judge-requires-clause-placed : goal.judge-requires-clause-placed
judge-requires-clause-placed g c = placed c.requires.1

pub returns-then-not-is_same_verdict : goal.returns-then-not-is_same_verdict
returns-then-not-is_same_verdict g c = λ h is.
    let known = subst (λ (n : ℕ). c.args.client < n) (c.clients.ensures.of c.args.grid.now h is) c.if-client-clients.false in
    inr (
      refl,
      known,
      λ also. impossible (sym c.if-not-is_same_verdict.true ∙ c.is_same_verdict.ensures.1
          (verdict-one c.args.grid.now h c.args.client c.args.order c.judge.result c.args.verdict is.legal (c.judge.ensures.verdict h is) also)),
    )

pub returns : goal.returns
returns g c = λ h is. (
  subst (λ (n : ℕ). c.args.client < n) (c.clients.ensures.of c.args.grid.now h is) c.if-client-clients.false,
  subst (λ (v : Verdict). IsVerdict c.args.grid.now h c.args.client c.args.order v) (c.is_same_verdict.ensures.0 c.if-not-is_same_verdict.false) (c.judge.ensures.verdict h is),
)
