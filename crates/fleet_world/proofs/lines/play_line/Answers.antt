-- The event once more.
use Rattle.std.proofs.Common.{◌∙◌, [], ◌∷◌, ◌++◌, replicate, sym, ap}
use Rattle.std.proofs.lemmas.List.{append_assoc}
use Rattle.fleet_world.specs.Answers.{events_in}
use Rattle.fleet_world.proofs.Answering.{leads_to-push, replicate-more}
use Rattle.fleet_world.proofs.lines.play_line.Goals as goal

pub loop-done-preserved : goal.loop-done-preserved
loop-done-preserved g c =
    let event = c.args.run.event in
    let before = events_in c.args.answers.now.items in
    let added = c.in_ok-add_answer.ensures in
    record {
      leads = λ t begun. rw (added.events, added.replies) (leads_to-push t _ _ _ _ _ _ (c.loop-done.invariant.leads t begun) c.in_ok-reply.ensures.step);
      events = added.events ∙ (ap (λ l. l ++ event ∷ []) c.loop-done.invariant.events
          ∙ (append_assoc before (replicate c.loop-done.done event) (event ∷ []) ∙ ap (λ l. before ++ l) (sym (replicate-more c.loop-done.done event))));
    }
