-- The conversation does not speak for the client, or it does.
use Rattle.std.proofs.Common.{◌≡◌, List, ℕ, ◌∙◌, ap, subst}
use Rattle.std.specs.Prelude.{OnOk, Some, slice_get}
use Rattle.fleet_talk.specs.Said.{under}
use Rattle.fleet_talk.specs.Says.{marked}
use Rattle.live_fleet.specs.declared.speaker.Speaker.{Speaker}
use Rattle.live_fleet.specs.Act.{Act}
use Rattle.live_fleet.specs.Answering.{Answers}
use Rattle.live_fleet.specs.Party.{stage_of}
use Rattle.live_fleet.specs.Sessions.{since_text}
use Rattle.live_fleet.proofs.Heard.{own-no, own-yes}
use Rattle.live_fleet.proofs.party.Party.hear_since.Goals as goal

pub returns-then-not-is_own : goal.returns-then-not-is_own
returns-then-not-is_own g c = record { ok = own-no c.refuse_client.result c.args.self.now.speakers.items c.args.place.to c.args.client c.args.self.now.clients c.is_own.result _ _ c.if-not-is_own.true c.is_own.ensures.own c.refuse_client.ensures.ok }

pub returns : goal.returns
returns g c =
    let said = subst (λ (t : List ℕ). OnOk c.say.result ((sp : Speaker) → slice_get c.args.self.now.speakers.items c.args.place.to ≡ Some sp →
    (acts : List Act) × Answers c.args.place.to sp (marked (under c.args.place.line.mark) t) (stage_of c.args.self.now c.args.out.now) acts (stage_of c.say.new.self c.say.new.out)))
    (c.as_str.ensures.value ∙ (c.in_ok-text.ensures ∙ ap (λ (n : ℕ). since_text c.args.self.now.fleet.recalls n c.args.client c.args.seq) c.mark_len-mark.ensures)) c.say.ensures.ok in
    record { ok = own-yes c.say.result c.args.self.now.speakers.items c.args.place.to c.args.client c.args.self.now.clients c.is_own.result _ _ c.if-not-is_own.false c.is_own.ensures.own said }
