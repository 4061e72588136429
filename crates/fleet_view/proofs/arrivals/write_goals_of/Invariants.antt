use Rattle.std.proofs.Common.{◌≡◌, ◌++◌, map, string_bytes}
use Rattle.fleet_trace.specs.Trace.{trace_of}
use Rattle.fleet_view.specs.Picture.{goals_below}
use Rattle.fleet_view.proofs.arrivals.write_goals_of.Given as goal

abbrev pub invariant-loop-robot : goal.invariant-loop-robot
invariant-loop-robot l = string_bytes l.out ≡ string_bytes l.fn.out ++ goals_below l.width (map trace_of l.chapters) l.robot
