use Rattle.std.proofs.Common.{◌≡◌, ◌++◌, drop, map, string_bytes}
use Rattle.fleet_trace.specs.Trace.{trace_of}
use Rattle.fleet_view.specs.Picture.{goals_in}
use Rattle.fleet_view.proofs.arrivals.write_all_goals.Given as goal

abbrev pub invariant-loop-chapter : goal.invariant-loop-chapter
invariant-loop-chapter l = string_bytes l.out ++ goals_in l.width l.robot (map trace_of (drop l.chapter-index l.chapters)) ≡ string_bytes l.fn.out ++ goals_in l.width l.robot (map trace_of l.chapters)
