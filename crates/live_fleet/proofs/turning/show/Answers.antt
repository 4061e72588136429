-- The conversation watches, and was shown the text if it had room.
use Rattle.std.proofs.Common.{◌∙◌, ◌<◌, ℕ, length, refl, sym, arith, Vec, Global}
use Rattle.std.proofs.lemmas.List.{length-map}
use Rattle.live_fleet.specs.Open.{is_open}
use Rattle.live_fleet.specs.Went.{At, at_of}
use Rattle.live_fleet.proofs.Shows.{says-if-room, shows-where}
use Rattle.live_fleet.proofs.turning.show.Goals as goal

pub returns-in_ok-say_if_room-clause-ok : goal.returns-in_ok-say_if_room-clause-ok
returns-in_ok-say_if_room-clause-ok g c =
    let a : At = at_of c.args.fleet.now c.args.out.now in
    let b : At = at_of c.args.fleet.now c.say_if_room.new.out in
    let size = length-map c.args.out.now.texts.items (λ (t : Vec ℕ Global). t.items) in
    let inside : c.args.to < length a.out.texts = omega (arith, c.requires.there, c.args.out.now.texts.ok.0, size) in
    shows-where c.args.speaker.now.watching (is_open c.args.speaker.now.rest) c.args.to c.args.text.now a b c.if-speaker.true (sym c.is_open.ensures ∙ c.if-is_open.true)
    (says-if-room c.in_ok-say_if_room.field-0 c.args.to c.args.text.now a b inside refl c.in_ok-say_if_room.ensures.ok)
