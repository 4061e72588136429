use Rattle.std.proofs.Common.{◌≡◌, ◌++◌, drop, string_bytes}
use Rattle.fleet_convert.specs.Moves.{track_of}
use Rattle.fleet_convert.proofs.moves.write_track.Given as goal

abbrev pub invariant-loop-time : goal.invariant-loop-time
invariant-loop-time l = string_bytes l.out ++ track_of l.width l.robot (drop l.time l.places) ≡ string_bytes l.fn.out ++ track_of l.width l.robot l.places
