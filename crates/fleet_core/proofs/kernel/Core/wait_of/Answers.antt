use Rattle.std.proofs.Common.{arith, ◌<◌, ◌∙◌, sym, subst}
use Rattle.fleet_history.specs.History.{history_of, robots}
use Rattle.fleet_bound.specs.Bound.{wait_bound}
use Rattle.fleet_state.proofs.Parts.{queue-count}
use Rattle.fleet_core.proofs.WaitBound.{if-below, waits-kept}
use Rattle.fleet_core.proofs.kernel.Core.wait_of.Goals as goal

pub wait_of-requires : goal.wait_of-requires
wait_of-requires g c =
    let known : c.args.robot < robots (history_of c.self.inside.chapter) = subst (λ w. c.args.robot < robots w.history) (sym c.self.view_is) c.requires in
    omega (arith, queue-count c.self.invariant.is)

pub returns-clause-wait : goal.returns-clause-wait
returns-clause-wait g c = rw (← c.self.view_is) (c.wait_of.ensures c.self.inside.grid (history_of c.self.inside.chapter) c.self.invariant.is)

pub returns-clause-bounded : goal.returns-clause-bounded
returns-clause-bounded g c = rw (← c.self.view_is) (λ none has.
    let h = history_of c.self.inside.chapter in
    let known : c.args.robot < robots h = subst (λ w. c.args.robot < robots w.history) (sym c.self.view_is) c.requires in
    let is = c.wait_of.ensures c.self.inside.grid h c.self.invariant.is in
    if-below c.wait_of.result (wait_bound c.self.inside.grid h) (λ w e. waits-kept c.self.invariant none has c.args.robot w known (sym is ∙ e)))
