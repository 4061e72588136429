-- What is made of a map and a trace that are both read.
use Rattle.std.proofs.Common.{ℕ, List, string_bytes}
use Rattle.std.proofs.lemmas.Result.{IfOk-weaker, IfErr-weaker}
use Rattle.fleet_map.specs.Grammar.{view}
use Rattle.fleet_trace.specs.Trace.{trace_of}
use Rattle.fleet_convert.proofs.Converted.{converted, unconverted}
use Rattle.fleet_convert.proofs.conversion.convert.Goals as goal

pub returns-in-Ok-read_trace-clause-plan : goal.returns-in-Ok-read_trace-clause-plan
returns-in-Ok-read_trace-clause-plan c =
    IfOk-weaker c.convert_chapter.result _ _ (λ text plan. converted c.args.form c.args.map.now c.args.trace.now (string_bytes text) (view c.in-Ok.map) (trace_of c.in-Ok-read_trace.chapter) c.in-Ok.ensures.exact c.in-Ok-read_trace.ensures.found plan) c.convert_chapter.ensures.plan

pub returns-in-Ok-read_trace-clause-fault : goal.returns-in-Ok-read_trace-clause-fault
returns-in-Ok-read_trace-clause-fault c =
    IfErr-weaker c.convert_chapter.result _ _ (λ f no. unconverted c.args.map.now c.args.trace.now (view c.in-Ok.map) (trace_of c.in-Ok-read_trace.chapter) c.in-Ok.ensures.exact c.in-Ok-read_trace.ensures.found f no) c.convert_chapter.ensures.fault
