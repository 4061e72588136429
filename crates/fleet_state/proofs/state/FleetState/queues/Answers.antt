use Rattle.std.proofs.Common.{List, map, ap, ◌∙◌}
use Rattle.fleet_queue.specs.Queue.{Queue}
use Rattle.fleet_state.proofs.Parts.{inside, items-of}
use Rattle.fleet_state.proofs.state.FleetState.queues.Goals as goal

pub returns-clause-of : goal.returns-clause-of
returns-clause-of g c m h k = ap (λ (qs : List Queue). map (λ (q : Queue). q.items) qs) c.queues.ensures ∙ items-of (inside c.self.view_is k)
