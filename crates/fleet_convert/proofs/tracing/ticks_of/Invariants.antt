use Rattle.std.proofs.Common.{◌≡◌, ◌++◌, drop, map}
use Rattle.fleet_convert.specs.PlanTrace.{tick_to}
use Rattle.fleet_convert.proofs.tracing.ticks_of.Given as goal

abbrev pub invariant-loop-time : goal.invariant-loop-time
invariant-loop-time l = l.entries.items ++ map tick_to (drop l.time l.places) ≡ map tick_to (drop 1 l.places)
