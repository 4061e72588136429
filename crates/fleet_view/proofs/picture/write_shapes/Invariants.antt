use Rattle.std.proofs.Common.{◌≡◌, ◌++◌, drop, map, string_bytes}
use Rattle.fleet_trace.specs.Trace.{trace_of}
use Rattle.fleet_view.specs.Picture.{shapes_from}
use Rattle.fleet_view.proofs.picture.write_shapes.Given as goal

abbrev pub invariant-loop-robot : goal.invariant-loop-robot
invariant-loop-robot l = string_bytes l.out ++ shapes_from l.width l.tick (map trace_of l.chapters) l.robot (drop l.robot l.robots) ≡ string_bytes l.fn.out ++ shapes_from l.width l.tick (map trace_of l.chapters) 0 l.robots
