use Rattle.std.proofs.Common.{arith, ◌<◌, sym, subst}
use Rattle.fleet_history.specs.History.{history_of, clients}
use Rattle.fleet_state.proofs.Parts.{tally-count}
use Rattle.fleet_core.proofs.kernel.Core.owed.Goals as goal

pub owed-requires : goal.owed-requires
owed-requires g c =
    let known : c.args.client < clients (history_of c.self.inside.chapter) = subst (λ w. c.args.client < clients w.history) (sym c.self.view_is) c.requires in
    omega (arith, tally-count c.self.invariant.is)

pub returns : goal.returns
returns g c = rw (← c.self.view_is) (c.owed.ensures c.self.inside.grid (history_of c.self.inside.chapter) c.self.invariant.is)
