use Rattle.std.proofs.Common.{◌≡◌, ◌∙◌, refl, sym, ap, subst, arith, length}
use Rattle.std.proofs.Math.Numerals.{add-one}
use Rattle.fleet_history.specs.History.{History, clients}
use Rattle.fleet_history.proofs.Legal.{legal-opening}
use Rattle.fleet_c.specs.inside.Runs.{chores_until, AreAll}
use Rattle.fleet_c.proofs.AllErrands.{are-all}
use Rattle.fleet_c.proofs.errands.all_errands.Goals as goal

pub overflow_cast-client : goal.overflow_cast-client
overflow_cast-client c =
    let counted = ap length c.as_slice-clients.ensures ∙ ap (λ (h : History _). length h.opening.clients) c.chapter.ensures.history in
    omega (arith, c.loop-client-test.true, counted, (legal-opening c.args.core.now.floor c.args.core.now.history c.chapter.ensures.legal).few_clients)

pub loop-client-preserved : goal.loop-client-preserved
loop-client-preserved c = rw (c.in_ok-add_errands.ensures, c.loop-client.invariant, add-one c.loop-client.client) refl

pub returns : goal.returns
returns c =
    let counted = ap length c.as_slice-clients.ensures ∙ ap (λ (h : History _). length h.opening.clients) c.chapter.ensures.history in
    let done : c.loop-client.client ≡ clients c.args.core.now.history = omega (arith, c.loop-client-test.false, c.loop-client.auto.client-end, counted) in
    subst (λ xs. AreAll c.args.core.now.history xs) (sym (c.loop-client.invariant ∙ ap (chores_until c.args.core.now.history) done))
    (are-all c.args.core.now.floor c.args.core.now.history c.chapter.ensures.legal)
