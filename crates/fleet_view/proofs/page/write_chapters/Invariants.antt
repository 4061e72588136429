use Rattle.std.proofs.Common.{◌≡◌, ◌++◌, drop, map}
use Rattle.fleet_trace.specs.Trace.{trace_of}
use Rattle.fleet_view.specs.Page.{chapters_text}
use Rattle.fleet_view.proofs.page.write_chapters.Given as goal

abbrev pub invariant-loop-chapter : goal.invariant-loop-chapter
invariant-loop-chapter l = l.out.items ++ chapters_text (map trace_of (drop l.chapter-index l.chapters)) ≡ l.fn.out.items ++ chapters_text (map trace_of l.chapters)
