use Rattle.std.proofs.Common.{◌≡◌, ◌++◌, drop, string_bytes}
use Rattle.std.specs.List.{flat_map}
use Rattle.fleet_text.specs.Output.{arrival_text}
use Rattle.fleet_text.proofs.ticks.write_arrivals.Given as goal

abbrev pub invariant-loop-arrival : goal.invariant-loop-arrival
invariant-loop-arrival g l = string_bytes l.out ++ flat_map (arrival_text l.to) (drop l.arrival-index l.arrived) ≡ string_bytes l.fn.out ++ flat_map (arrival_text l.to) l.arrived
