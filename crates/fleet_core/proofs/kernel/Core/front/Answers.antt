use Rattle.std.proofs.Common.{arith, ◌<◌, sym, subst}
use Rattle.fleet_history.specs.History.{history_of, robots}
use Rattle.fleet_state.proofs.Parts.{queue-count}
use Rattle.fleet_core.proofs.kernel.Core.front.Goals as goal

pub front-requires : goal.front-requires
front-requires g c =
    let known : c.args.robot < robots (history_of c.self.inside.chapter) = subst (λ w. c.args.robot < robots w.history) (sym c.self.view_is) c.requires in
    omega (arith, queue-count c.self.invariant.is)

pub returns : goal.returns
returns g c = rw (← c.self.view_is) (c.front.ensures.of c.self.inside.grid (history_of c.self.inside.chapter) c.self.invariant.is)
