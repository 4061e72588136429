-- The verdict after the calm opening is the opening's own.
use Rattle.std.proofs.Common.{◌≡◌, refl, sym, subst, arith}
use Rattle.fleet_history.specs.declared.history.Opening.{Opening}
use Rattle.fleet_trace.proofs.CalmOpening.{calm-order, calm-ok, calm-err}
use Rattle.fleet_trace.proofs.judging.judge_from_zero.Goals as goal

pub judge_behind-requires-clause-order : goal.judge_behind-requires-clause-order
judge_behind-requires-clause-order g c =
    calm-order c.args.grid.now c.args.opening.now c.in_ok-calm.calm c.args.entries.now c.in_ok-calm.ensures c.requires.order

pub judge_behind-requires-clause-early : goal.judge_behind-requires-clause-early
judge_behind-requires-clause-early g c =
    let zero : c.in_ok-calm.calm.tick ≡ 0 = subst (λ (o : Opening _). o.tick ≡ 0) (sym c.in_ok-calm.ensures) refl in
    omega (arith, zero, c.requires.few)

pub returns-clause-ok : goal.returns-clause-ok
returns-clause-ok g c =
    calm-ok c.args.grid.now c.args.opening.now c.in_ok-calm.calm c.args.entries.now c.in_ok-calm.ensures c.requires.order c.judge_behind.result c.judge_behind.ensures.ok

pub returns-clause-fault : goal.returns-clause-fault
returns-clause-fault g c =
    calm-err c.args.grid.now c.args.opening.now c.in_ok-calm.calm c.args.entries.now c.in_ok-calm.ensures c.requires.order c.judge_behind.result c.judge_behind.ensures.fault
