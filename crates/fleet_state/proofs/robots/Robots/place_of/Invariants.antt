use Rattle.std.proofs.Common.{◌≡◌, ◌<◌, ℕ}
use Rattle.fleet_queue.specs.Queue.{is_of}
use Rattle.fleet_book.specs.declared.facts.Place.TheVariants.{Absent}
use Rattle.fleet_history.specs.Verdicts.{place_in}
use Rattle.fleet_state.specs.Robots.{queue_at}
use Rattle.fleet_state.proofs.robots.Robots.place_of.Given as goal

abbrev pub invariant-loop-r : goal.invariant-loop-r
invariant-loop-r g l = (k : ℕ) → k < l.r → place_in (is_of l.client l.number) (queue_at l.self-inside.queues.items k).items ≡ Absent
