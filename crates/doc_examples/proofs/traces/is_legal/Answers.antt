-- The trace that the text tells, and what the judge said of it.
use Rattle.std.proofs.Common.{subst}
use Rattle.fleet_history.specs.History.{history_of}
use Rattle.fleet_trace.specs.declared.fault.JudgeFault.{JudgeFault}
use Rattle.fleet_trace.specs.Judged.{IsJudgeFault}
use Rattle.fleet_trace.specs.Trace.{trace_of}
use Rattle.doc_examples.proofs.traces.is_legal.Goals as goal

pub returns-in-Ok-clause-legal : goal.returns-in-Ok-clause-legal
returns-in-Ok-clause-legal c = λ yes. (trace_of c.in_ok-chapter.chapter, c.in_ok-chapter.ensures.found, c.in-Ok.ensures.ok)

pub returns-in-Err-Illegal-clause-illegal : goal.returns-in-Err-Illegal-clause-illegal
returns-in-Err-Illegal-clause-illegal c = λ no. (
  trace_of c.in_ok-chapter.chapter,
  c.in_ok-chapter.ensures.found,
  c.in-Err-Illegal.field-0-0,
  c.in-Err-Illegal.field-0-1,
  subst (λ (f : JudgeFault). IsJudgeFault c.args.grid.now (history_of c.in_ok-chapter.chapter) f) c.in-Err-Illegal.field-0-is c.in-Err-Illegal.ensures.fault,
)
