-- What is said of a serve: its trace, and whether a post met a full lane.
use Rattle.std.proofs.Common.{ℕ, List, ap, ◌∙◌}
use Rattle.std.specs.Prelude.{nat_lt}
use Rattle.std.proofs.lemmas.Result.{IfOk-weaker}
use Rattle.errands_lib.specs.Answer.{limited}
use Rattle.errands_lib.proofs.service.served_text.Goals as goal

pub returns-clause-legal : goal.returns-clause-legal
returns-clause-legal c = IfOk-weaker c.ended.result _ _ (λ s h. c.in_ok-judge_served.ensures) c.ended.ensures

pub returns-clause-said : goal.returns-clause-said
returns-clause-said c =
    IfOk-weaker c.ended.result _ _ (λ s h. h ∙ ap (λ (text : List ℕ). limited (nat_lt 0 c.args.served.now.lane_full) text) (c.in_ok-output.ensures ∙ c.in_ok-trace_line.ensures)) c.ended.ensures
