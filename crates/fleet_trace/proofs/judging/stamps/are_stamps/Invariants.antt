use Rattle.std.proofs.Common.{ℕ, ◌<◌, map, slice_index_or}
use Rattle.fleet_hooks.specs.Law.{IsStamp}
use Rattle.fleet_history.specs.declared.history.Arrival.{Arrival}
use Rattle.fleet_history.specs.Legal.{no_law}
use Rattle.fleet_trace.proofs.judging.stamps.are_stamps.Given as goal

abbrev pub invariant-loop-arrival : goal.invariant-loop-arrival
invariant-loop-arrival g l = (k : ℕ) (d : Arrival) → k < l.arrival-index →
    IsStamp (slice_index_or (map (λ x. x.arrival_law) l.robots) (slice_index_or l.arrived k d).robot no_law) (slice_index_or l.arrived k d).stamp
