-- The conversation was answered.
use Rattle.std.proofs.Common.{◌<◌, ℕ, length, refl, arith, Vec, Global}
use Rattle.std.proofs.lemmas.List.{length-map}
use Rattle.live_fleet.specs.Party.{stage_of}
use Rattle.live_fleet.proofs.Answered.{say-of}
use Rattle.live_fleet.proofs.party.Party.say.Goals as goal

pub returns-clause-ok : goal.returns-clause-ok
returns-clause-ok g c =
    let size = length-map c.args.out.now.texts.items (λ (t : Vec ℕ Global). t.items) in
    say-of c.answer.result c.args.place.to _ (stage_of c.args.self.now c.args.out.now) _ c.index_mut.result.now c.answer.new.speaker
    (omega (arith, c.requires.there, c.requires.texts, c.args.out.now.texts.ok.0, size)) refl refl (omega (arith, c.requires.there, c.args.self.now.speakers.ok.0)) c.index_mut.ensures.value c.answer.ensures.same c.answer.ensures.ok
