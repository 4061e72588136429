-- One client more has the chapter's notices.
use Rattle.std.proofs.Common.{rules, ◌≡◌, ◌<◌, ◌≤◌, ◌∙◌, arith, length}
use Rattle.std.specs.Prelude.{slice_index_or}
use Rattle.std.proofs.lemmas.List.{length-set}
use Rattle.std.proofs.lemmas.List.Elements.{All-set}
use Rattle.fleet_history.specs.History.{history_of}
use Rattle.fleet_history.specs.Notices.{notices}
use Rattle.live_parts.specs.Recalls.{IsCounted, Recall}
use Rattle.live_parts.proofs.Recalling.{kept-next, others-next}
use Rattle.live_parts.proofs.recalls.add_in.Goals as goal

pub loop-client-preserved : goal.loop-client-preserved
loop-client-preserved c =
    let h = history_of c.args.chapter.now in
    let rs = c.loop-client.clients.items in
    let at = c.loop-client.client in
    let r = c.add_before.new.self in
    let x = c.index_mut.result.now in
    let i = c.loop-client.invariant in
    let there : at < length rs = omega (arith, i.len, c.requires.wide, c.loop-client-test.true) in
    let is : x ≡ slice_index_or rs at x = search rules in
    record {
      few = All-set (λ (r : Recall). length r.notices ≤ c.args.most) rs at r c.add_before.ensures.few i.few;
      len = length-set rs at r ∙ i.len;
      kept = kept-next rs c.args.clients.now.items c.args.most at r x (notices h) (IsCounted h) c.deref.result.now there i.kept i.others is c.in_ok-add_before.ensures.ok (λ few. c.deref.ensures.value ∙ c.in_ok-notices.ensures few);
      others = others-next rs c.args.clients.now.items at r i.others;
    }
