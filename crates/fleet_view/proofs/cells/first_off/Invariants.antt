use Rattle.std.proofs.Common.{◌≡◌, drop, map}
use Rattle.fleet_trace.specs.Trace.{trace_of}
use Rattle.fleet_view.specs.Cells.{first_off}
use Rattle.fleet_view.proofs.cells.first_off.Given as goal

abbrev pub invariant-loop-place : goal.invariant-loop-place
invariant-loop-place l = first_off l.cells l.place (map trace_of (drop l.place l.chapters)) ≡ first_off l.cells 0 (map trace_of l.chapters)
