-- The map is read first, then the trace.
use Rattle.std.proofs.Common.{refl, sym, subst}
use Rattle.std.proofs.lemmas.Result.{IfOk-weaker}
use Rattle.fleet_map.specs.declared.fault.MapFault.{MapFault}
use Rattle.fleet_map.specs.Grammar.{Fails, map_of, view}
use Rattle.fleet_trace.specs.Trace.{trace_of}
use Rattle.fleet_lib.specs.Judge.{map_unread, trace_unread, told}
use Rattle.fleet_lib.proofs.Judged.{map_fails, same_fault}
use Rattle.fleet_lib.proofs.judge.judged.Goals as goal

pub returns-in-Err : goal.returns-in-Err
returns-in-Err c =
    let named = c.in_ok-named-in-Err.named in
    let e = c.in_ok-named-in-Err.ensures in
    map_unread named (map_fails named (map_of c.args.map.now) (subst (λ (f : MapFault). Fails f (map_of c.args.map.now)) (sym e.same) c.in-Err.ensures.exact) e.named) refl

pub returns-in-Ok-read_trace : goal.returns-in-Ok-read_trace
returns-in-Ok-read_trace c =
    IfOk-weaker c.judged_on.result _ _ (λ j is. told (view c.in-Ok.map) (trace_of c.in-Ok-read_trace.chapter) c.in-Ok.ensures.exact c.in-Ok-read_trace.ensures.found is) c.judged_on.ensures

pub returns-in_ok-trace_fault-in-Err-read_trace : goal.returns-in_ok-trace_fault-in-Err-read_trace
returns-in_ok-trace_fault-in-Err-read_trace c =
    let named = c.in_ok-trace_fault-in-Err-read_trace.field-0 in
    let e = c.in_ok-trace_fault-in-Err-read_trace.ensures in
    trace_unread (view c.in-Ok.map) named c.in-Ok.ensures.exact (same_fault c.args.trace.now c.in-Err-read_trace.fault named e.same c.in-Err-read_trace.ensures.fault) e.named refl
