use Rattle.std.proofs.Common.{arith, ◌∙◌, ap, length, map}
use Rattle.fleet_queue.specs.Queue.{Queue}
use Rattle.fleet_history.specs.History.{history_of}
use Rattle.fleet_state.proofs.Parts.{robots-few}
use Rattle.fleet_core.specs.OpenErrands.{open_from}
use Rattle.fleet_core.proofs.OpenFacts.{all-found}
use Rattle.fleet_core.proofs.kernel.Core.open_errands.Goals as goal

pub add_queues-requires : goal.add_queues-requires
add_queues-requires g c = omega (arith, ap length c.queues.ensures.queues, robots-few c.self.invariant.is)

pub returns : goal.returns
returns g c =
    rw (← c.self.view_is)
    (all-found c.args.client (map (λ (q : Queue). q.items) c.queues.result.now) _ _ c.new-found.ensures.items c.in_ok-add_queues.ensures
    ∙ ap (open_from c.args.client 0) (c.queues.ensures.of c.self.inside.grid (history_of c.self.inside.chapter) c.self.invariant.is))
