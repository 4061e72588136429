-- A conversation is held where there are a map and a head.
use Rattle.std.proofs.Common.{Bool, Result, refl}
use Rattle.std.specs.Option.{option_map}
use Rattle.std.specs.Io.Buffered.{reader_remaining}
use Rattle.fleet_talk.specs.Conversation.{KeptChapters}
use Rattle.fleet_talk.specs.Heading.{drafted}
use Rattle.fleet_lib.specs.declared.kept.KeptFault.{KeptFault}
use Rattle.fleet_lib.specs.Ended.{IsEnded, TellsEnd, file_shown, groundless, held, terms_of}
use Rattle.fleet_lib.proofs.Endings.{then_each}
use Rattle.fleet_lib.proofs.talk.run_talk.Goals as goal

pub returns-in-Ok : goal.returns-in-Ok
returns-in-Ok g c =
    let known = reader_remaining g.I.Read.remaining c.args.ends.now.input in
    let a = g.W.Write.contents c.args.ends.now.output in
    let b = g.W.Write.contents c.hold-ended.new.ends.output in
    let k : KeptChapters = record { old = g.S.ChapterSink.kept c.args.ends.now.sink; new = g.S.ChapterSink.kept c.hold-ended.new.ends.sink } in
    let floor = c.in-Ok.ground.0 in
    let said = drafted c.in-Ok.ground.1 in
    let file = option_map file_shown c.args.texts.kept in
    held floor said c.in-Ok.ensures.ground
    (then_each known (λ bytes. IsEnded (terms_of floor said c.args.settings) file bytes a b k c.hold-ended.result)
    (λ bytes. (ended : Result Bool KeptFault) × IsEnded (terms_of floor said c.args.settings) file bytes a b k ended × TellsEnd c.args.texts.map.now file ended (g.E.Write.contents c.args.error.now) (g.E.Write.contents c.tell_end.new.error) c.tell_end.result)
    (λ bytes h. (c.hold-ended.result, h, c.tell_end.ensures)) c.hold-ended.ensures)

pub returns-in-Err : goal.returns-in-Err
returns-in-Err g c = groundless c.in-Err.complaint c.in-Err.ensures.fault c.complain.ensures refl refl
