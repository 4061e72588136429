use Rattle.std.proofs.Common.{arith, ◌≡◌, ◌<◌, sym, subst}
use Rattle.fleet_history.specs.History.{history_of, clients, taken_count}
use Rattle.fleet_state.proofs.Parts.{tally-count}
use Rattle.fleet_core.proofs.CoreKept.{taken-small}
use Rattle.fleet_core.proofs.kernel.Core.taken.Goals as goal

pub taken-requires : goal.taken-requires
taken-requires g c =
    let known : c.args.client < clients (history_of c.self.inside.chapter) = subst (λ w. c.args.client < clients w.history) (sym c.self.view_is) c.requires in
    omega (arith, tally-count c.self.invariant.is)

pub returns-clause-taken : goal.returns-clause-taken
returns-clause-taken g c = rw (← c.self.view_is) (c.taken.ensures c.self.inside.grid (history_of c.self.inside.chapter) c.self.invariant.is)

pub returns-clause-few : goal.returns-clause-few
returns-clause-few g c =
    let known : c.args.client < clients (history_of c.self.inside.chapter) = subst (λ w. c.args.client < clients w.history) (sym c.self.view_is) c.requires in
    let is : c.taken.result ≡ taken_count (history_of c.self.inside.chapter) c.args.client = c.taken.ensures c.self.inside.grid (history_of c.self.inside.chapter) c.self.invariant.is in
    omega (arith, is, taken-small c.self.invariant.within c.args.client known)
