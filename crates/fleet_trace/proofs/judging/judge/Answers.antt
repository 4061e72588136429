use Rattle.std.proofs.Common.{subst, refl, inl, List}
use Rattle.std.specs.Prelude.{OnOk, IfErr}
use Rattle.fleet_history.specs.declared.history.Entry.{Entry}
use Rattle.fleet_history.specs.History.{history_of, start, with_entries}
use Rattle.fleet_history.specs.Legal.{IsLegal}
use Rattle.fleet_history.proofs.Legal.{legal-opening}
use Rattle.fleet_trace.specs.Judged.{IsJudgeFault}
use Rattle.fleet_trace.proofs.OpeningParts.{none_out, some_out}
use Rattle.fleet_trace.proofs.CalmOpening.{legal-memory}
use Rattle.fleet_trace.proofs.judging.judge.Goals as goal

pub returns-in-Some-clause-fault : goal.returns-in-Some-clause-fault
returns-in-Some-clause-fault g c = inl (refl, refl, some_out c.args.grid.now c.args.chapter.now.opening c.in_ok-opening_fault.field-0 c.in_ok-opening_fault.ensures c.in-Some.field-0 c.in-Some.is)

pub returns-in-Some-clause-legal : goal.returns-in-Some-clause-legal
returns-in-Some-clause-legal g c = λ legal.
    absurd (some_out c.args.grid.now c.args.chapter.now.opening c.in_ok-opening_fault.field-0 c.in_ok-opening_fault.ensures c.in-Some.field-0 c.in-Some.is (legal-opening c.args.grid.now (history_of c.args.chapter.now) legal))

pub judge_from_zero-requires-clause-order : goal.judge_from_zero-requires-clause-order
judge_from_zero-requires-clause-order g c = none_out c.args.grid.now c.args.chapter.now.opening c.in_ok-opening_fault.field-0 c.in_ok-opening_fault.ensures c.in_default.is

pub returns-clause-ok : goal.returns-clause-ok
returns-clause-ok g c =
    subst (λ (es : List (Entry _)). OnOk c.judge_from_zero.result (IsLegal c.args.grid.now (with_entries (start c.args.chapter.now.opening) es))) c.as_slice-entries.ensures.value c.judge_from_zero.ensures.ok

pub returns-clause-fault : goal.returns-clause-fault
returns-clause-fault g c =
    subst (λ (es : List (Entry _)). IfErr c.judge_from_zero.result (λ fault. IsJudgeFault c.args.grid.now (with_entries (start c.args.chapter.now.opening) es) fault)) c.as_slice-entries.ensures.value c.judge_from_zero.ensures.fault

pub returns-clause-legal : goal.returns-clause-legal
returns-clause-legal g c = λ legal.
    legal-memory c.args.grid.now (history_of c.args.chapter.now) legal c.judge_from_zero.result
    (subst (λ (es : List (Entry _)). IfErr c.judge_from_zero.result (λ fault. IsJudgeFault c.args.grid.now (with_entries (start c.args.chapter.now.opening) es) fault)) c.as_slice-entries.ensures.value c.judge_from_zero.ensures.fault)
