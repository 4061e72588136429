use Rattle.std.proofs.Common.{◌≡◌, ◌+◌, map, drop}
use Rattle.fleet_trace.specs.Trace.{trace_of}
use Rattle.fleet_stats.specs.declared.fault.StatsFault.{StatsFault}
use Rattle.fleet_stats.specs.Noted.{chapters_noted}
use Rattle.fleet_stats.specs.Rows.{shown}
use Rattle.fleet_stats.specs.Chapters.{AreSound, AreUnsound}
use Rattle.fleet_stats.proofs.follow.follow_all.Given as goal

abbrev pub invariant-loop-chapter : goal.invariant-loop-chapter
invariant-loop-chapter l = record {
  number : l.number ≡ l.chapter-index + 1;
  notes : chapters_noted (map trace_of (drop l.chapter-index l.chapters)) (shown l.notes) ≡ chapters_noted (map trace_of l.chapters) (shown l.fn.notes);
  sound : AreSound l.grid (map trace_of (drop l.chapter-index l.chapters)) → AreSound l.grid (map trace_of l.chapters);
  rest : (f : StatsFault) → AreUnsound l.grid l.number (map trace_of (drop l.chapter-index l.chapters)) f → AreUnsound l.grid 1 (map trace_of l.chapters) f;
}
