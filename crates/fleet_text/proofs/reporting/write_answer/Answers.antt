-- The lines of one time more.
use Rattle.std.proofs.Common.{string_bytes}
use Rattle.fleet_text.proofs.PieceTexts.{answer-more}
use Rattle.fleet_text.proofs.reporting.write_answer.Goals as goal

pub loop-time-preserved : goal.loop-time-preserved
loop-time-preserved c es rs =
    answer-more c.args.answer.event c.args.answer.reply es rs c.args.times c.loop-time.time c.loop-time.rest.now c.entries_after-rest.result.now _
    (string_bytes c.loop-time.out) (string_bytes c.write_event.new.out) _ c.loop-time-test.true (c.loop-time.invariant es rs) c.in_ok-write_event.ensures c.first.ensures.value c.entries_after-rest.ensures
