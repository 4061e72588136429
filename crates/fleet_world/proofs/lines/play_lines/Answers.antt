-- One line more.
use Rattle.std.proofs.Common.{rules, ◌≡◌, ◌∙◌, [], ◌∷◌, ◌++◌, take, get_or, replicate, sym, ap}
use Rattle.std.proofs.lemmas.List.{take_more}
use Rattle.fleet_script.specs.Runs.{unrolled}
use Rattle.fleet_world.specs.Keeps.{talk}
use Rattle.fleet_world.proofs.Answering.{unrolled-more}
use Rattle.fleet_world.proofs.lines.play_lines.Goals as goal

pub loop-at-preserved : goal.loop-at-preserved
loop-at-preserved g c =
    let runs = c.args.runs.now in
    let run = c.index-runs-at.result in
    let read : get_or runs c.loop-at.at run ≡ run = search rules in
    let next = take_more runs c.loop-at.at run c.loop-at-test.true ∙ ap (λ x. take c.loop-at.at runs ++ x ∷ []) read in
    record {
      leads = c.in-Ok.ensures.leads (talk c.args.session.now) c.loop-at.invariant.leads;
      events = c.in-Ok.ensures.events ∙ (ap (λ l. l ++ replicate run.times run.event) c.loop-at.invariant.events
          ∙ sym (ap unrolled next ∙ unrolled-more (take c.loop-at.at runs) run));
    }
