use Rattle.std.proofs.Common.{◌≡◌, ◌++◌, drop, map}
use Rattle.fleet_trace.specs.Trace.{trace_of}
use Rattle.fleet_view.specs.Picture.{cells_in}
use Rattle.fleet_view.proofs.picture.cells_in.Given as goal

abbrev pub invariant-loop-chapter : goal.invariant-loop-chapter
invariant-loop-chapter l = l.cells.items ++ cells_in l.robot (map trace_of (drop l.chapter-index l.chapters)) ≡ cells_in l.robot (map trace_of l.chapters)
