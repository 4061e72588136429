use Rattle.std.proofs.Common.{◌∙◌}
use Rattle.std.proofs.lemmas.Result.{IfOk-weaker}
use Rattle.fleet_trace.specs.Trace.{trace_of}
use Rattle.fleet_trace.proofs.RoundTrip.{tells_itself, tells_only}
use Rattle.fleet_trace.proofs.law.write_and_read.Goals as goal

pub returns-clause-same : goal.returns-clause-same
returns-clause-same c =
    let e = c.as_bytes.ensures.value ∙ c.as_str.ensures.value ∙ c.in_ok-text.ensures.text in
    IfOk-weaker c.read_trace.result _ _ (λ again h. tells_only _ (trace_of c.args.chapter.now) (trace_of again) e c.in_ok-text.ensures.fits h) c.read_trace.ensures.found

pub returns-clause-fault : goal.returns-clause-fault
returns-clause-fault c =
    let e = c.as_bytes.ensures.value ∙ c.as_str.ensures.value ∙ c.in_ok-text.ensures.text in
    c.read_trace.ensures.reads (trace_of c.args.chapter.now) (tells_itself _ (trace_of c.args.chapter.now) e c.in_ok-text.ensures.fits c.as_bytes.ensures.utf8)
