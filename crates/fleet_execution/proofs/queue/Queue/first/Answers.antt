-- The robot at the front.
use Rattle.std.proofs.Common.{◌≡◌, ℕ, ◌<◌, Option, Some, None, IfSome, List, Bool, length, slice_get, sym, ◌∙◌}
use Rattle.fleet_execution.specs.Queue.{IsQueue}
use Rattle.fleet_execution.proofs.Queues.{first_inside}
use Rattle.fleet_execution.proofs.queue.Queue.first.Goals as goal

inside_by : (o : Option ℕ) (items : List ℕ) (capacity : ℕ) (waits : List Bool) → o ≡ slice_get items 0 → IsQueue items capacity waits → IfSome o (λ r. r < length waits)
inside_by None items capacity waits is queue = tt
inside_by (Some r) items capacity waits is queue = first_inside items capacity waits r queue (sym is)

pub returns-clause-inside : goal.returns-clause-inside
returns-clause-inside g c = rw (← c.self.view_is) (inside_by c.copied.result c.self.inside.order.items c.self.inside.order.capacity c.self.inside.waits (c.copied.ensures ∙ c.front.ensures) c.self.invariant)
