use Rattle.std.proofs.Common.{◌≤◌, sym, subst, arith}
use Rattle.fleet_history.specs.History.{history_of, robots}
use Rattle.fleet_planner.specs.Aimed.{IsIdle}
use Rattle.fleet_planner.proofs.GoalsKept.{idle-missing}
use Rattle.fleet_state.proofs.Parts.{cell-count}
use Rattle.fleet_core.specs.Core.{World}
use Rattle.fleet_core.proofs.kernel.Core.missing.Goals as goal

pub missing-requires : goal.missing-requires
missing-requires g c = c.self.invariant.aimed.on

pub returns-clause-idle : goal.returns-clause-idle
returns-clause-idle g c idle =
    let h = history_of c.self.inside.chapter in
    let i = subst (λ (w : World _). IsIdle w.history) (sym c.self.view_is) idle in
    idle-missing c.self.inside.grid h c.self.inside.planner.planner.aims c.self.inside.state.cells c.missing.result c.self.invariant.aimed.aimed i c.missing.ensures

pub returns-clause-few : goal.returns-clause-few
returns-clause-few g c =
    let few = c.missing.ensures.few in
    let many = cell-count c.self.invariant.is in
    subst (λ (w : World _). c.missing.result ≤ robots w.history) c.self.view_is (omega (arith, few, many))
