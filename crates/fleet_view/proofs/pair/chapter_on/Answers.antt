-- What is made of a chapter.
use Rattle.std.proofs.Common.{◌∙◌, sym}
use Rattle.fleet_map.specs.Grammar.{view}
use Rattle.fleet_trace.specs.Trace.{trace_of}
use Rattle.fleet_view.proofs.Paired.{judged-run, off-map}
use Rattle.fleet_view.proofs.pair.chapter_on.Goals as goal

pub returns-then-not-is_chapter_on-clause-fault : goal.returns-then-not-is_chapter_on-clause-fault
returns-then-not-is_chapter_on-clause-fault c =
    off-map (view c.args.floor.now) c.args.number (trace_of c.args.chapter.now) c.cell_count-count.result c.cell_count-count.ensures (sym c.is_chapter_on.ensures ∙ c.if-not-is_chapter_on.true)

pub returns-in-Ok-clause-run : goal.returns-in-Ok-clause-run
returns-in-Ok-clause-run c =
    judged-run (view c.args.floor.now) c.args.grid.now (trace_of c.args.chapter.now) c.cell_count-count.result c.in_ok-verdict.verdict c.in-Ok.made.items c.requires c.cell_count-count.ensures
    (sym c.is_chapter_on.ensures ∙ c.if-not-is_chapter_on.false) c.in_ok-verdict.ensures c.in-Ok.ensures
