use Rattle.std.proofs.Common.{arith, ◌<◌, sym, subst}
use Rattle.fleet_history.specs.History.{history_of, clients}
use Rattle.fleet_core.proofs.kernel.Core.next_notice.Goals as goal

pub first-requires : goal.first-requires
first-requires g c =
    let known : c.args.client < clients (history_of c.self.inside.chapter) = subst (λ w. c.args.client < clients w.history) (sym c.self.view_is) c.requires in
    omega (arith, c.self.invariant.boxed.count)
