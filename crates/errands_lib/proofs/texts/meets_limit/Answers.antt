-- A limit was met at this answer, or at none up to it.
use Rattle.std.proofs.Common.{rules, ◌≡◌, true, false, get_or}
use Rattle.fleet_text.specs.Output.{is_limit_met}
use Rattle.errands_lib.proofs.Outcomes.{any_met, any_passed}
use Rattle.errands_lib.proofs.texts.meets_limit.Goals as goal

pub returns-then-is_limit_met : goal.returns-then-is_limit_met
returns-then-is_limit_met c =
    let answer = c.index-answers-at.result in
    let read : get_or c.args.answers.now c.loop-at.at answer ≡ answer = search rules in
    let met : is_limit_met answer.reply ≡ true = search rules in
    any_met c.args.answers.now c.loop-at.at answer _ c.loop-at-test.true read met c.loop-at.invariant

pub loop-at-preserved : goal.loop-at-preserved
loop-at-preserved c =
    let answer = c.index-answers-at.result in
    let read : get_or c.args.answers.now c.loop-at.at answer ≡ answer = search rules in
    let not_met : is_limit_met answer.reply ≡ false = search rules in
    any_passed c.args.answers.now c.loop-at.at answer _ c.loop-at-test.true read not_met c.loop-at.invariant
