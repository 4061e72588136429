use Rattle.std.proofs.Common.{◌≡◌, ◌++◌, drop, string_bytes}
use Rattle.fleet_convert.specs.Runners.{starts_from}
use Rattle.fleet_convert.proofs.runners.write_starts.Given as goal

abbrev pub invariant-loop-robot : goal.invariant-loop-robot
invariant-loop-robot l = string_bytes l.out ++ starts_from l.width l.robot (drop l.robot l.cells) ≡ string_bytes l.fn.out ++ starts_from l.width 0 l.cells
