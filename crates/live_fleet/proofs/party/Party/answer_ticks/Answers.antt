-- The last turn is the answer.
use Rattle.std.proofs.Common.{◌≡◌, ◌∙◌, ◌<◌, ℕ, List, length, refl, ap, arith, Vec, Global}
use Rattle.std.proofs.lemmas.List.{length-map}
use Rattle.std.proofs.lemmas.Result.{on_ok_weaker}
use Rattle.fleet_talk.specs.Said.{under}
use Rattle.fleet_talk.specs.Says.{marked}
use Rattle.live_fleet.specs.declared.speaker.Speaker.{Speaker}
use Rattle.fleet_world.specs.Keeps.{talk}
use Rattle.live_fleet.specs.Answering.{mark_kept}
use Rattle.live_fleet.specs.Party.{Stage, resting, stage_of}
use Rattle.live_fleet.specs.Turning.{tick_answer}
use Rattle.live_fleet.proofs.Answered.{answered-as, read-there, say-of}
use Rattle.live_fleet.proofs.party.Party.answer_ticks.Goals as goal

pub returns-clause-ok : goal.returns-clause-ok
returns-clause-ok g c =
    let s : Stage = stage_of c.args.self.now c.args.out.now in
    let read = c.index_mut-speaker.result.now in
    let new = c.answer.new.speaker in
    let size = length-map c.args.out.now.texts.items (λ (t : Vec ℕ Global). t.items) in
    let less : c.args.to < length s.speakers = omega (arith, c.requires.there, c.args.self.now.speakers.ok.0) in
    let said = say-of c.answer.result c.args.to (marked (under c.mark_in.result) c.as_str.result.now) s _ read new
    (omega (arith, c.requires.there, c.requires.texts, c.args.out.now.texts.ok.0, size)) refl refl less c.index_mut-speaker.ensures.value
    (c.answer.ensures.same ∙ ap (λ (x : Speaker). resting x new.rest) c.take_mark-mark.ensures.done) c.answer.ensures.ok in
    on_ok_weaker c.answer.result
    (λ it sp mark before there was.
    let one = read-there s.speakers c.args.to read sp less c.index_mut-speaker.ensures.value there in
    let kept : under c.mark_in.result ≡ mark_kept mark = c.mark_in.ensures ∙ ap mark_kept (c.take_mark-mark.ensures.mark mark before (ap (λ (x : Speaker). x.rest) one ∙ was)) in
    answered-as c.args.to sp (marked (under c.mark_in.result) c.as_str.result.now) (marked (mark_kept mark) (tick_answer (talk c.args.self.now.fleet.session) c.args.reply)) s _
    (ap (λ m. marked m c.as_str.result.now) kept ∙ ap (marked (mark_kept mark)) (c.as_str.ensures.value ∙ c.in_ok-text.ensures)) (it sp there)) said
