use Rattle.std.proofs.Common.{ℕ, ◌<◌, slice_index_or}
use Rattle.fleet_queue.specs.declared.errand.Errand.{Errand}
use Rattle.fleet_trace.specs.inside.Opened.{IsErrandInOrder}
use Rattle.fleet_trace.proofs.judging.robots.are_errands_in_order.Given as goal

abbrev pub invariant-loop-errand : goal.invariant-loop-errand
invariant-loop-errand g l = (k : ℕ) (d : Errand) → k < l.errand-index → IsErrandInOrder l.grid l.clients l.cell (slice_index_or l.errands k d)
