-- A trace on a map that is read.
use Rattle.std.proofs.lemmas.Result.{IfOk-weaker}
use Rattle.fleet_map.specs.Grammar.{view}
use Rattle.fleet_trace.specs.Trace.{trace_of}
use Rattle.fleet_explain.proofs.Answered.{trace_on, trace_none}
use Rattle.fleet_explain.proofs.explanation.explain_trace.Goals as goal

pub returns-in-Ok-read_trace : goal.returns-in-Ok-read_trace
returns-in-Ok-read_trace c =
    IfOk-weaker c.chapter_explanation.result _ _ (λ e is. trace_on c.args.map.now c.args.trace.now e (view c.in-Ok.floor) (trace_of c.in-Ok-read_trace.chapter) c.in-Ok.ensures.exact c.in-Ok-read_trace.ensures.found is) c.chapter_explanation.ensures

pub returns-in-Err-read_trace : goal.returns-in-Err-read_trace
returns-in-Err-read_trace c =
    IfOk-weaker c.text_explanation.result _ _ (λ e is. trace_none c.args.map.now c.args.trace.now (view c.in-Ok.floor) e c.in-Ok.ensures.exact is) c.text_explanation.ensures
