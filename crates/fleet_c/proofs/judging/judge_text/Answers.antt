use Rattle.std.proofs.lemmas.Result.{IfOk-weaker}
use Rattle.fleet_trace.specs.Trace.{trace_of}
use Rattle.fleet_c.proofs.judging.judge_text.Goals as goal

pub returns-in-Ok-clause-ok : goal.returns-in-Ok-clause-ok
returns-in-Ok-clause-ok c =
    IfOk-weaker c.judge_chapter.result _ _ (λ u is. record { kept = trace_of c.in-Ok.chapter; tells = c.in-Ok.ensures.found; legal = is }) c.judge_chapter.ensures.ok
