use Rattle.std.proofs.Common.{◌∙◌, arith, ap, slice_get}
use Rattle.fleet_queue.specs.Queue.{Queue}
use Rattle.fleet_state.proofs.Parts.{inside, queue-count, queue-of}
use Rattle.fleet_state.proofs.state.FleetState.front.Goals as goal

pub returns-clause-of : goal.returns-clause-of
returns-clause-of g c m h k = c.front.ensures ∙ ap (λ (q : Queue). slice_get q.items 0) (c.queue.ensures ∙ queue-of (inside c.self.view_is k) c.args.robot (omega (arith, c.requires, queue-count k)))
