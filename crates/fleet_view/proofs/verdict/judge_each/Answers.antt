-- One more chapter is judged.
use Rattle.std.proofs.Common.{sym}
use Rattle.fleet_trace.specs.Trace.{trace_of}
use Rattle.fleet_view.proofs.Verdicts.{next-judged}
use Rattle.fleet_view.proofs.verdict.judge_each.Goals as goal

pub loop-chapter-preserved : goal.loop-chapter-preserved
loop-chapter-preserved c =
    next-judged c.args.grid.now trace_of c.args.chapters.now c.loop-chapter.chapter-index c.chapter-item.result c.loop-chapter.verdicts.items c.push.new.self.items c.in_ok-verdict.verdict
    c.loop-chapter-test.true (sym c.chapter-item.is) c.loop-chapter.invariant c.in_ok-push.ensures.items c.in_ok-verdict.ensures
