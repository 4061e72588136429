use Rattle.std.proofs.Common.{ap}
use Rattle.fleet_grid.specs.Floor.{floor_of_map}
use Rattle.fleet_map.specs.Grammar.{view}
use Rattle.fleet_trace.specs.Trace.{trace_of}
use Rattle.fleet_history.specs.History.{history_of}
use Rattle.fleet_text.specs.Outcome.{fault}
use Rattle.errands_lib.specs.Answer.{IsJudged, IsJudgeOutcome, map_unread, trace_unread, judged}
use Rattle.errands_lib.proofs.Outcomes.{said_is, said_more, map_fails}
use Rattle.errands_lib.proofs.judgement.answer_trace.Goals as goal

pub returns-in-Err : goal.returns-in-Err
returns-in-Err c = said_is (IsJudgeOutcome c.args.map.now c.args.trace.now) c.faulty.result _ c.faulty.ensures
    (map_unread c.in-Err.fault (map_fails c.in-Err.fault c.args.map.now c.in-Err.ensures.exact c.in_ok-map_complaint-in-Err.ensures.named) (ap fault c.in_ok-map_complaint-in-Err.ensures.value))

pub returns-in-Ok-read_trace : goal.returns-in-Ok-read_trace
returns-in-Ok-read_trace c = said_more (IsJudged (floor_of_map (view c.in-Ok.map)) (history_of c.in-Ok-read_trace.chapter)) (IsJudgeOutcome c.args.map.now c.args.trace.now) c.judge_chapter.result
    (λ o p. judged (view c.in-Ok.map) (trace_of c.in-Ok-read_trace.chapter) c.in-Ok.ensures.exact c.in-Ok-read_trace.ensures.found p) c.judge_chapter.ensures

pub returns-in_ok-trace_complaint-in-Err-read_trace : goal.returns-in_ok-trace_complaint-in-Err-read_trace
returns-in_ok-trace_complaint-in-Err-read_trace c = said_is (IsJudgeOutcome c.args.map.now c.args.trace.now) c.faulty-in-Err-read_trace.result _ c.faulty-in-Err-read_trace.ensures
    (trace_unread (view c.in-Ok.map) c.in-Err-read_trace.fault c.in-Ok.ensures.exact c.in-Err-read_trace.ensures.fault c.in_ok-trace_complaint-in-Err-read_trace.ensures.named (ap fault c.in_ok-trace_complaint-in-Err-read_trace.ensures.value))
