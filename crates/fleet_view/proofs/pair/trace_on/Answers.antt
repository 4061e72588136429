-- What is made of a trace that is read.
use Rattle.std.proofs.lemmas.Result.{IfOk-weaker, IfErr-weaker}
use Rattle.fleet_map.specs.Grammar.{view}
use Rattle.fleet_trace.specs.Trace.{trace_of}
use Rattle.fleet_view.proofs.Paired.{untraced}
use Rattle.fleet_view.proofs.pair.trace_on.Goals as goal

pub returns-in-Ok-clause-run : goal.returns-in-Ok-clause-run
returns-in-Ok-clause-run c = IfOk-weaker c.chapter_on.result _ _ (λ run is. (trace_of c.in-Ok.chapter, c.in-Ok.ensures.found, is)) c.chapter_on.ensures.run

pub returns-in-Ok-clause-fault : goal.returns-in-Ok-clause-fault
returns-in-Ok-clause-fault c =
    IfErr-weaker c.chapter_on.result _ _ (λ f why. untraced (view c.args.floor.now) c.args.number c.args.text.now (trace_of c.in-Ok.chapter) f c.in-Ok.ensures.found why) c.chapter_on.ensures.fault
