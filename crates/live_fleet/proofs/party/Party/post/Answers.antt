-- The order was posted or not, that was answered, and an order that was posted is judged.
use Rattle.std.proofs.Common.{◌≡◌, ◌∙◌, ◌<◌, ℕ, List, length, refl, sym, arith, string_bytes}
use Rattle.std.proofs.lemmas.Result.{on_ok_weaker}
use Rattle.fleet_talk.specs.Said.{under}
use Rattle.live_fleet.specs.Party.{Stage, stage_of}
use Rattle.live_fleet.proofs.Posted.{posts-from, settles-not, settles-then}
use Rattle.live_fleet.proofs.party.Party.post.Goals as goal

pub returns-then-not-posted : goal.returns-then-not-posted
returns-then-not-posted g c =
    let s : Stage = stage_of c.args.self.now c.args.out.now in
    let two : Stage = stage_of c.say.new.self c.say.new.out in
    let many = c.requires.whole.notes in
    record {
      ok = λ sp there. posts-from c.args.place.to sp (under c.args.place.line.mark) c.args.client c.args.order (string_bytes c.in_ok-text.text) c.as_str.result.now c.in_ok-text.posted c.index_mut-note.result.now c.post_answered.new.note s _ two two
          (omega (arith, c.requires.client, many)) c.index_mut-note.ensures.value c.in_ok-text.ensures refl refl refl refl c.as_str.ensures.value (c.in_ok-say.ensures.ok sp there) (λ posted good. settles-not posted two (sym good ∙ c.if-not-posted.true));
    }

pub returns : goal.returns
returns g c =
    let s : Stage = stage_of c.args.self.now c.args.out.now in
    let two : Stage = stage_of c.say.new.self c.say.new.out in
    let t : Stage = stage_of c.settle.new.self c.settle.new.out in
    let many = c.requires.whole.notes in
    record {
      ok = on_ok_weaker c.settle.result
          (λ settled sp there. posts-from c.args.place.to sp (under c.args.place.line.mark) c.args.client c.args.order (string_bytes c.in_ok-text.text) c.as_str.result.now c.in_ok-text.posted c.index_mut-note.result.now c.post_answered.new.note s _ two t
          (omega (arith, c.requires.client, many)) c.index_mut-note.ensures.value c.in_ok-text.ensures refl refl refl refl c.as_str.ensures.value (c.in_ok-say.ensures.ok sp there) (λ posted good. settles-then posted two t (sym good ∙ c.if-not-posted.false) settled)) c.settle.ensures.ok;
    }
