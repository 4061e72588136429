use Rattle.std.proofs.Common.{◌<◌, ◌^◌, ◌∙◌, List, length, ap, sym, subst}
use Rattle.std.specs.List.{sum_by}
use Rattle.fleet_bound.specs.Idle.{longest_queue}
use Rattle.fleet_history.specs.History.{history_of}
use Rattle.fleet_queue.specs.Queue.{Queue}
use Rattle.fleet_core.proofs.OpenFacts.{sum-fits, sum-is}
use Rattle.fleet_core.proofs.kernel.Core.queues.Goals as goal

pub sum_of-requires : goal.sum_of-requires
sum_of-requires g c = subst (λ (l : List Queue). sum_by (λ q. length q.items) l < 2 ^ 64) (sym c.queues-queues.ensures.queues) (sum-fits c.self.invariant.is)

pub returns-clause-total : goal.returns-clause-total
returns-clause-total g c = rw (← c.self.view_is) (c.sum_of.ensures ∙ ap (sum_by (λ (q : Queue). length q.items)) c.queues-queues.ensures.queues ∙ sum-is c.self.invariant.is)

pub returns-clause-longest : goal.returns-clause-longest
returns-clause-longest g c =
    rw (← c.self.view_is) (c.longest_queue.ensures ∙ ap longest_queue (c.queues-queues.ensures.of c.self.inside.grid (history_of c.self.inside.chapter) c.self.invariant.is))
