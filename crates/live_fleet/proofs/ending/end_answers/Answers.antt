-- One more answer is ended.
use Rattle.std.proofs.Common.{◌≡◌, ◌∙◌, ◌<◌, ◌+◌, ◌++◌, List, length, map, take, drop, ap, subst, arith}
use Rattle.std.specs.Prelude.{slice_set}
use Rattle.live_fleet.specs.declared.speaker.Speaker.{Speaker}
use Rattle.live_fleet.specs.Ending.{at_end}
use Rattle.live_fleet.proofs.Ended.{changed-next}
use Rattle.live_fleet.proofs.ending.end_answers.Goals as goal

pub loop-to-preserved : goal.loop-to-preserved
loop-to-preserved c =
    let xs = c.args.speakers.now in
    let n = c.loop-to.to in
    ap (slice_set c.loop-to.speakers n) c.end_answer.ensures
    ∙ subst (λ (y : Speaker). slice_set c.loop-to.speakers n (at_end y) ≡ map at_end (take (n + 1) xs) ++ drop (n + 1) xs) c.index-speakers-to.is
    (changed-next at_end xs c.loop-to.speakers n c.index-speakers-to.result c.loop-to.invariant (omega (arith, c.loop-to-test.true, c.loop-to.auto.speakers)) c.index-speakers-to.is)
