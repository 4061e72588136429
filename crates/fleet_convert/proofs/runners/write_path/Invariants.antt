use Rattle.std.proofs.Common.{◌≡◌, ◌++◌, drop, string_bytes}
use Rattle.fleet_convert.specs.Moves.{steps_of}
use Rattle.fleet_convert.specs.Runners.{path_from}
use Rattle.fleet_convert.proofs.runners.write_path.Given as goal

abbrev pub invariant-loop-time : goal.invariant-loop-time
invariant-loop-time l = string_bytes l.out ++ path_from l.time (steps_of l.width l.robot (drop l.time l.places)) ≡ string_bytes l.fn.out ++ path_from 0 (steps_of l.width l.robot l.places)
