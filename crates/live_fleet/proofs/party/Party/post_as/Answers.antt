-- Its number is not the next, or it is.
use Rattle.std.proofs.Common.{◌∙◌, ◌==◌, List, ap}
use Rattle.live_fleet.specs.declared.notes.Note.{Note}
use Rattle.live_fleet.specs.Numbered.{next_order}
use Rattle.live_fleet.proofs.Heard.{if-no, if-yes}
use Rattle.live_fleet.proofs.party.Party.post_as.Goals as goal

pub returns-then-not-is_next : goal.returns-then-not-is_next
returns-then-not-is_next g c = record {
  ok = if-no c.refuse_number.result c.args.self.now.speakers.items c.args.place.to c.is_next.result _ _ _ c.if-not-is_next.true
      (c.is_next.ensures ∙ ap (λ (ns : List Note). next_order ns c.args.post.client == c.args.post.number) c.deref.ensures.value) c.refuse_number.ensures.ok;
}

pub returns : goal.returns
returns g c = record {
  ok = if-yes c.post_let_in.result c.args.self.now.speakers.items c.args.place.to c.is_next.result _ _ _ c.if-not-is_next.false
      (c.is_next.ensures ∙ ap (λ (ns : List Note). next_order ns c.args.post.client == c.args.post.number) c.deref.ensures.value) c.post_let_in.ensures.ok;
}
