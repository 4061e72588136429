-- Whether all ticks were made, by the clock of the history.
use Rattle.std.proofs.Common.{arith, ◌<◌, subst}
use Rattle.std.proofs.lemmas.Bool.{leb-false}
use Rattle.fleet_history.specs.History.{clock, history_of}
use Rattle.fleet_core.proofs.kernel.Core.is_spent.Goals as goal

pub returns-clause-early : goal.returns-clause-early
returns-clause-early g c e =
    let sooner = leb-false c.self.inside.limits.clock c.clock.result e in
    let made = c.clock.ensures.of c.self.inside.grid (history_of c.self.inside.chapter) c.self.invariant.is in
    subst (λ w. clock w.history < w.limits.clock) c.self.view_is (omega (arith, sooner, made))
