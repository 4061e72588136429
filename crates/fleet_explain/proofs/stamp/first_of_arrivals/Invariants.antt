use Rattle.std.proofs.Common.{◌≡◌, drop, map}
use Rattle.fleet_explain.specs.Stamps.{arrival_stamp, first_outside}
use Rattle.fleet_explain.proofs.stamp.first_of_arrivals.Given as goal

abbrev pub invariant-loop-arrival : goal.invariant-loop-arrival
invariant-loop-arrival l = first_outside (map (λ a. arrival_stamp l.robots a.robot a.stamp) (drop l.arrival-index l.arrived)) ≡ first_outside (map (λ a. arrival_stamp l.robots a.robot a.stamp) l.arrived)
