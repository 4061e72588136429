-- A conversation ends as `converse` and `resume` say.
use Rattle.std.proofs.Common.{ap}
use Rattle.std.specs.Option.{option_map}
use Rattle.std.specs.Io.Buffered.{reader_remaining}
use Rattle.fleet_text.specs.Kit.{kit_laws}
use Rattle.fleet_talk.specs.Chapters.{chapter_shown}
use Rattle.fleet_talk.specs.Conversation.{KeptChapters, Terms}
use Rattle.fleet_talk.specs.Heading.{drafted}
use Rattle.fleet_lib.specs.Ended.{EndsAs, EndsOn, EndsWith, began, went_on}
use Rattle.fleet_lib.proofs.Endings.{ends-as, ends-on, then_each}
use Rattle.fleet_lib.proofs.holding.hold_on.Goals as goal

pub returns-in-Some : goal.returns-in-Some
returns-in-Some g c =
    let on : Terms = record { kit = kit_laws c.args.ground.kit; floor = c.args.ground.grid; settings = c.args.settings; head = drafted c.args.ground.head } in
    let known = reader_remaining g.I.Read.remaining c.args.ends.now.input in
    let a = g.W.Write.contents c.args.ends.now.output in
    let b = g.W.Write.contents c.resume.new.ends.output in
    let k : KeptChapters = record { old = g.S.ChapterSink.kept c.args.ends.now.sink; new = g.S.ChapterSink.kept c.resume.new.ends.sink } in
    let chapter = chapter_shown c.in-Some.chapter in
    then_each known (λ bytes. EndsOn on chapter bytes a b k c.resume.result) (λ bytes. EndsWith on (option_map chapter_shown c.args.kept) bytes a b k c.resume.result)
    (λ bytes h. went_on chapter (ap (option_map chapter_shown) c.in-Some.is) h)
    (ends-on on k chapter known a b c.resume.result c.resume.ensures.ended c.resume.ensures.refused c.resume.ensures.untouched c.resume.ensures.roomless (λ same. ap (λ e. g.W.Write.contents e.output) same) (λ same. ap (λ e. g.S.ChapterSink.kept e.sink) same) c.resume.ensures.broken c.resume.ensures.unwritten)

pub returns-in-None : goal.returns-in-None
returns-in-None g c =
    let on : Terms = record { kit = kit_laws c.args.ground.kit; floor = c.args.ground.grid; settings = c.args.settings; head = drafted c.args.ground.head } in
    let known = reader_remaining g.I.Read.remaining c.args.ends.now.input in
    let a = g.W.Write.contents c.args.ends.now.output in
    let b = g.W.Write.contents c.converse.new.ends.output in
    let k : KeptChapters = record { old = g.S.ChapterSink.kept c.args.ends.now.sink; new = g.S.ChapterSink.kept c.converse.new.ends.sink } in
    then_each known (λ bytes. EndsAs on bytes a b k c.converse.result) (λ bytes. EndsWith on (option_map chapter_shown c.args.kept) bytes a b k c.broken_off.result)
    (λ bytes h. began (ap (option_map chapter_shown) c.in-None.is) c.converse.result c.broken_off.ensures h)
    (ends-as on k known a b c.converse.result c.converse.ensures.ended c.converse.ensures.refused c.converse.ensures.roomless c.converse.ensures.broken c.converse.ensures.unwritten)
