-- What is made of a plan that was studied.
use Rattle.std.proofs.Common.{◌∙◌, sym, string_bytes}
use Rattle.std.proofs.lemmas.Result.{IfOk-weaker, IfErr-weaker}
use Rattle.fleet_map.specs.Grammar.{view}
use Rattle.fleet_convert.proofs.Traced.{refused, traced, untraced}
use Rattle.fleet_convert.proofs.tracing.trace_from.Goals as goal

pub returns-then-not-is_valid-clause-fault : goal.returns-then-not-is_valid-clause-fault
returns-then-not-is_valid-clause-fault c = refused c.args.bytes.now c.args.plan.now (view c.args.floor) c.in_ok-study.study c.requires.read (sym c.is_valid.ensures ∙ c.if-not-is_valid.true) c.in_ok-study.ensures

pub returns-clause-trace : goal.returns-clause-trace
returns-clause-trace c =
    IfOk-weaker c.trace_on.result _ _
    (λ text trace. traced c.args.bytes.now c.args.plan.now (view c.args.floor) c.in_ok-study.study c.requires.read (sym c.is_valid.ensures ∙ c.if-not-is_valid.false) (string_bytes text) c.in_ok-study.ensures trace)
    c.trace_on.ensures.trace

pub returns-clause-fault : goal.returns-clause-fault
returns-clause-fault c =
    IfErr-weaker c.trace_on.result _ _
    (λ f why. untraced c.args.bytes.now c.args.plan.now (view c.args.floor) c.in_ok-study.study c.requires.read (sym c.is_valid.ensures ∙ c.if-not-is_valid.false) f c.in_ok-study.ensures why)
    c.trace_on.ensures.fault
