-- A conversation whose fleet went on.
use Rattle.std.proofs.Common.{◌∙◌, Err, ap}
use Rattle.std.specs.Io.Buffered.{reader_remaining}
use Rattle.fleet_text.specs.Kit.{kit_laws}
use Rattle.fleet_world.specs.Keeps.{talk}
use Rattle.fleet_talk.specs.declared.fault.TalkFault.TheVariants.{Output}
use Rattle.fleet_talk.specs.Chapters.{chapter_shown}
use Rattle.fleet_talk.specs.Conversation.{KeptChapters, Terms}
use Rattle.fleet_talk.specs.Heading.{drafted}
use Rattle.fleet_talk.proofs.Resumptions.{resumption-whole, resumption-broken, resumption-cut, same-broke}
use Rattle.fleet_talk.proofs.resumption.resume.Goals as goal

pub returns-in-Ok-converse_open-clause-ended : goal.returns-in-Ok-converse_open-clause-ended
returns-in-Ok-converse_open-clause-ended g c =
    let on : Terms = record { kit = kit_laws c.args.ground.kit; floor = c.args.ground.grid; settings = c.args.settings; head = drafted c.args.ground.head } in
    let k : KeptChapters = record { old = g.S.ChapterSink.kept c.args.ends.now.sink; new = g.S.ChapterSink.kept c.converse_open.new.ends.sink } in
    resumption-whole on (chapter_shown c.args.chapter) c.in-Ok.session.world.core.turns c.in-Ok.ensures.takes (talk c.in-Ok.session) c.in-Ok.ensures.ok c.in-Ok.ensures.may c.in-Ok.door.refused.marks.items c.in-Ok.ensures.door (reader_remaining g.I.Read.remaining c.args.ends.now.input) (g.W.Write.contents c.args.ends.now.output) (g.W.Write.contents c.converse_open.new.ends.output) k
    (g.S.ChapterSink.kept c.opened.new.self) c.in-Ok-converse_open.limited (c.opened.ensures.kept ∙ c.goes_on.ensures.kept) c.in-Ok-converse_open.ensures.ended

pub returns-in-Ok-clause-broken : goal.returns-in-Ok-clause-broken
returns-in-Ok-clause-broken g c why is mid =
    let on : Terms = record { kit = kit_laws c.args.ground.kit; floor = c.args.ground.grid; settings = c.args.settings; head = drafted c.args.ground.head } in
    let same = same-broke c.in-Err-converse_open.fault why is in
    resumption-broken on (chapter_shown c.args.chapter) c.in-Ok.session.world.core.turns c.in-Ok.ensures.takes (talk c.in-Ok.session) c.in-Ok.ensures.ok c.in-Ok.ensures.may c.in-Ok.door.refused.marks.items c.in-Ok.ensures.door (reader_remaining g.I.Read.remaining c.args.ends.now.input) (g.W.Write.contents c.args.ends.now.output) (g.W.Write.contents c.converse_open.new.ends.output)
    (c.in-Err-converse_open.ensures.broken (rw same mid))

pub returns-in-Ok-clause-unwritten : goal.returns-in-Ok-clause-unwritten
returns-in-Ok-clause-unwritten g c is =
    let on : Terms = record { kit = kit_laws c.args.ground.kit; floor = c.args.ground.grid; settings = c.args.settings; head = drafted c.args.ground.head } in
    let same = same-broke c.in-Err-converse_open.fault Output is in
    resumption-cut on (chapter_shown c.args.chapter) c.in-Ok.session.world.core.turns c.in-Ok.ensures.takes (talk c.in-Ok.session) c.in-Ok.ensures.ok c.in-Ok.ensures.may c.in-Ok.door.refused.marks.items c.in-Ok.ensures.door (reader_remaining g.I.Read.remaining c.args.ends.now.input) (g.W.Write.contents c.args.ends.now.output) (g.W.Write.contents c.converse_open.new.ends.output)
    (c.in-Err-converse_open.ensures.unwritten (ap (λ f. Err f) same))
