-- A report is taken, and the execution goes on.
use Rattle.std.proofs.Common.{ℕ, inl, Result, Ok, Err, OnOk, string_bytes, sym, subst}
use Rattle.execution_law.specs.Change.{Reports}
use Rattle.fleet_execution.specs.Kept.{desk}
use Rattle.fleet_execute.specs.declared.heard.Heard.{Heard}
use Rattle.fleet_execute.specs.Answers.{HasAnswered}
use Rattle.fleet_execute.proofs.heard.hear.Goals as goal

on_ok : {X E : Type 0} (result : Result X E) (P Q : Type 0) → (P → Q) → OnOk result P → OnOk result Q
on_ok (Ok u) P Q f p = f p
on_ok (Err e) P Q f p = p

pub returns-in-Ok : goal.returns-in-Ok
returns-in-Ok c = record {
  answered = on_ok c.turn.result _ _ (λ turned o x.
      let report = c.in-Ok.ensures.reported o x in
      let is : Reports o.run c.in-Reached.robot report.2.0 = subst (λ (r : ℕ). Reports o.run r report.2.0) c.in-Ok.ensures.robot report.2.1 in
      subst (λ (h : Heard). HasAnswered c.args.plan.now c.args.number h o (string_bytes c.args.told.now) (string_bytes c.turn.new.told) (desk c.turn.new.run)) (sym c.in-Reached.is)
      (inl (report.2.0, is, turned (record o { run = record o.run { reached = report.2.0 } }) report.2.2))) c.turn.ensures.turned;
}
