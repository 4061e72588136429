-- The answer was said.
use Rattle.std.proofs.Common.{◌≡◌, ◌∙◌, ℕ, List, ap, subst}
use Rattle.std.specs.Prelude.{OnOk, Some, slice_get}
use Rattle.fleet_talk.specs.Said.{under}
use Rattle.fleet_talk.specs.Says.{marked}
use Rattle.live_fleet.specs.declared.notes.Note.{Note}
use Rattle.live_fleet.specs.Numbered.{next_order, not_next_line}
use Rattle.live_fleet.specs.declared.speaker.Speaker.{Speaker}
use Rattle.live_fleet.specs.Act.{Act}
use Rattle.live_fleet.specs.Answering.{Answers}
use Rattle.live_fleet.specs.Party.{stage_of}
use Rattle.live_fleet.proofs.party.Party.refuse_number.Goals as goal

pub returns : goal.returns
returns g c = record {
  ok = subst (λ (t : List ℕ). OnOk c.say.result ((sp : Speaker) → slice_get c.args.self.now.speakers.items c.args.place.to ≡ Some sp →
      (acts : List Act) × Answers c.args.place.to sp (marked (under c.args.place.line.mark) t) (stage_of c.args.self.now c.args.out.now) acts (stage_of c.say.new.self c.say.new.out)))
      (c.as_str.ensures.value ∙ (c.in_ok-text.ensures ∙ (ap (not_next_line c.args.client) c.next_order-next.ensures
      ∙ ap (λ (ns : List Note). not_next_line c.args.client (next_order ns c.args.client)) c.deref.ensures.value))) c.say.ensures.ok;
}
