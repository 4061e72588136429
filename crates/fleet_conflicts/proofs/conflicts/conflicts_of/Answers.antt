-- What is listed of a plan, and of other texts.
use Rattle.std.proofs.Common.{◌∙◌, sym}
use Rattle.std.proofs.lemmas.Result.{IfOk-weaker}
use Rattle.fleet_map.specs.Grammar.{view}
use Rattle.fleet_conflicts.proofs.Told.{nothing, listed}
use Rattle.fleet_conflicts.proofs.conflicts.conflicts_of.Goals as goal

pub returns-then-not-is_invalid : goal.returns-then-not-is_invalid
returns-then-not-is_invalid c =
    nothing c.args.form c.args.bytes.now c.args.text.now c.in_ok-study.study c.in_ok-study.ensures c.new.result.items (sym c.is_invalid.ensures ∙ c.if-not-is_invalid.true) c.new.ensures.items

pub returns-in-Ok : goal.returns-in-Ok
returns-in-Ok c =
    IfOk-weaker c.conflicts_in.result _ _
    (λ conflicts all. listed c.args.form c.args.bytes.now c.args.text.now c.in_ok-study.study (view c.in-Ok.floor) c.in_ok-study.ensures c.in-Ok.ensures.exact (sym c.is_invalid.ensures ∙ c.if-not-is_invalid.false) conflicts.items all)
    c.conflicts_in.ensures
