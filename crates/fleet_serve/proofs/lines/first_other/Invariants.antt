use Rattle.std.proofs.Common.{ℕ, ◌<◌, slice_index_or}
use Rattle.fleet_book.specs.declared.event.Event.{Event}
use Rattle.fleet_serve.specs.Posted.{IsLine}
use Rattle.fleet_serve.proofs.lines.first_other.Given as goal

abbrev pub invariant-loop-at : goal.invariant-loop-at
invariant-loop-at l = (k : ℕ) (d : Event) → k < l.at → IsLine l.script.clients (slice_index_or l.script.events.items k d)
