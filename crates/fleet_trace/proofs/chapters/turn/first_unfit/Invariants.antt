use Rattle.std.proofs.Common.{◌≤◌, map, take}
use Rattle.fleet_trace.specs.Trace.{trace_of}
use Rattle.fleet_trace.specs.Chapters.{AreInTurn}
use Rattle.fleet_trace.proofs.chapters.turn.first_unfit.Given as goal

abbrev pub invariant-loop-place : goal.invariant-loop-place
invariant-loop-place l = record {
  some : 1 ≤ l.place;
  turn : AreInTurn l.grid (map trace_of (take l.place l.chapters));
}
