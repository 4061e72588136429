use Rattle.std.proofs.Common.{arith, ◌<◌, sym, subst}
use Rattle.fleet_history.specs.History.{history_of, clients}
use Rattle.fleet_core.proofs.kernel.Core.room_of.Goals as goal

pub limit_of-requires : goal.limit_of-requires
limit_of-requires g c =
    let known : c.args.client < clients (history_of c.self.inside.chapter) = subst (λ w. c.args.client < clients w.history) (sym c.self.view_is) c.requires in
    omega (arith, c.self.invariant.boxed.count)
