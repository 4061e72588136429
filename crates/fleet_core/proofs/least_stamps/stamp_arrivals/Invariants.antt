use Rattle.std.proofs.Common.{◌≡◌, ◌<◌, ℕ, map, get_or}
use Rattle.fleet_history.specs.Legal.{due_of}
use Rattle.fleet_core.specs.Hooks.{law_at}
use Rattle.fleet_core.proofs.Deliveries.{nobody}
use Rattle.fleet_core.proofs.least_stamps.stamp_arrivals.Given as goal

abbrev pub invariant-loop-j : goal.invariant-loop-j
invariant-loop-j g l = record {
  shows : map due_of l.arrived ≡ map due_of l.initial.arrived;
  stamps : (k : ℕ) → k < l.j → (get_or l.arrived k nobody).stamp ≡ (law_at (map (λ x. x.arrival_law) l.robots) (get_or l.arrived k nobody).robot).low;
}
