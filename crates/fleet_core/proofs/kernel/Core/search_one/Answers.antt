use Rattle.std.proofs.Common.{sym, subst}
use Rattle.fleet_field.specs.Store.{Keeps}
use Rattle.fleet_history.specs.History.{history_of}
use Rattle.fleet_planner.specs.Aimed.{IsIdle}
use Rattle.fleet_planner.proofs.GoalsKept.{idle-search}
use Rattle.fleet_planner.proofs.Refused.{if_ok_map}
use Rattle.fleet_core.specs.Core.{World}
use Rattle.fleet_core.proofs.Refusals.{kept-refused}
use Rattle.fleet_core.proofs.kernel.Core.search_one.Goals as goal

pub search_one-requires : goal.search_one-requires
search_one-requires g c = c.self.invariant.aimed.on

pub invariant_of-self : goal.invariant_of-self
invariant_of-self g c =
    let k = c.self.invariant in
    let e = c.search_one.ensures in
    kept-refused k e.goals (record { turns = e.turns; on = e.on; size = e.size; bridge = e.bridge; keeps = subst (Keeps c.self.inside.grid) (sym e.kept) k.aimed.kept })

pub returns-clause-idle : goal.returns-clause-idle
returns-clause-idle g c idle =
    let h = history_of c.self.inside.chapter in
    let i = subst (λ (w : World _). IsIdle w.history) (sym c.self.view_is) idle in
    if_ok_map c.search_one.result
    (λ searched is. idle-search c.self.inside.grid h c.self.inside.planner.planner.aims c.search_one.new.self.planner.aims c.self.inside.state.cells searched c.self.invariant.aimed.aimed i is) c.search_one.ensures.search
