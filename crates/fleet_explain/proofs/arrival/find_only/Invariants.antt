use Rattle.std.proofs.Common.{◌≡◌, drop, map}
use Rattle.fleet_history.specs.Legal.{due_of}
use Rattle.fleet_explain.specs.Only.{first_only}
use Rattle.fleet_explain.specs.Details.{is_same}
use Rattle.fleet_explain.proofs.arrival.find_only.Given as goal

abbrev pub invariant-loop-arrival : goal.invariant-loop-arrival
invariant-loop-arrival l = first_only is_same (map due_of (drop l.arrival-index l.arrivals)) (map due_of l.others) ≡ first_only is_same (map due_of l.arrivals) (map due_of l.others)
