use Rattle.std.proofs.Common.{map, take}
use Rattle.fleet_trace.specs.Trace.{trace_of}
use Rattle.fleet_view.specs.Verdicts.{AreVerdicts}
use Rattle.fleet_view.proofs.verdict.judge_each.Given as goal

abbrev pub invariant-loop-chapter : goal.invariant-loop-chapter
invariant-loop-chapter l = AreVerdicts l.grid (map trace_of (take l.chapter-index l.chapters)) l.verdicts.items
