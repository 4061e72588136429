use Rattle.std.proofs.Common.{◌≡◌, ◌++◌, drop, map}
use Rattle.fleet_convert.specs.PlanTrace.{standing}
use Rattle.fleet_convert.proofs.tracing.standing_on.Given as goal

abbrev pub invariant-loop-cell : goal.invariant-loop-cell
invariant-loop-cell l = l.robots.items ++ map standing (drop l.cell-index l.cells) ≡ map standing l.cells
