-- With the file of a chapter and without one.
use Rattle.std.proofs.Common.{refl, ap}
use Rattle.std.specs.Option.{option_map}
use Rattle.std.specs.Io.Buffered.{reader_remaining}
use Rattle.std.specs.Prelude.{Some, None}
use Rattle.fleet_talk.specs.Chapters.{chapter_shown}
use Rattle.fleet_talk.specs.Conversation.{KeptChapters, Terms}
use Rattle.fleet_talk.specs.Heading.{drafted}
use Rattle.fleet_lib.specs.Ended.{EndsWith, IsEnded, file_shown, terms_of, unread, with_file, without}
use Rattle.fleet_lib.proofs.Endings.{of_each, then_each}
use Rattle.fleet_lib.proofs.holding.hold.Goals as goal

pub returns-in-Ok : goal.returns-in-Ok
returns-in-Ok g c =
    let on : Terms = terms_of c.args.ground.0 (drafted c.args.ground.1) c.args.settings in
    let known = reader_remaining g.I.Read.remaining c.args.ends.now.input in
    let a = g.W.Write.contents c.args.ends.now.output in
    let b = g.W.Write.contents c.hold_with_hooks.new.ends.output in
    let k : KeptChapters = record { old = g.S.ChapterSink.kept c.args.ends.now.sink; new = g.S.ChapterSink.kept c.hold_with_hooks.new.ends.sink } in
    let chapter = c.in-Ok.chapter in
    then_each known (λ bytes. EndsWith on (Some (chapter_shown chapter)) bytes a b k c.hold_with_hooks.result) (λ bytes. IsEnded on (option_map file_shown c.args.kept) bytes a b k c.kept_end.result)
    (λ bytes h. with_file (file_shown c.in-Some.kept) (ap (option_map file_shown) c.in-Some.is) chapter c.in-Ok.ensures.ok.0 c.in-Ok.ensures.ok.1 c.hold_with_hooks.result c.kept_end.ensures h)
    c.hold_with_hooks.ensures

pub returns-in-Err : goal.returns-in-Err
returns-in-Err g c =
    let on : Terms = terms_of c.args.ground.0 (drafted c.args.ground.1) c.args.settings in
    let a = g.W.Write.contents c.args.ends.now.output in
    let k : KeptChapters = record { old = g.S.ChapterSink.kept c.args.ends.now.sink; new = g.S.ChapterSink.kept c.args.ends.now.sink } in
    of_each _ (λ bytes. IsEnded on (option_map file_shown c.args.kept) bytes a a k _)
    (λ bytes. unread (file_shown c.in-Some.kept) (ap (option_map file_shown) c.in-Some.is) c.in-Err.fault refl c.in-Err.ensures.fault refl refl)

pub returns-in-None : goal.returns-in-None
returns-in-None g c =
    let on : Terms = terms_of c.args.ground.0 (drafted c.args.ground.1) c.args.settings in
    let known = reader_remaining g.I.Read.remaining c.args.ends.now.input in
    let a = g.W.Write.contents c.args.ends.now.output in
    let b = g.W.Write.contents c.hold_with_hooks-in-None.new.ends.output in
    let k : KeptChapters = record { old = g.S.ChapterSink.kept c.args.ends.now.sink; new = g.S.ChapterSink.kept c.hold_with_hooks-in-None.new.ends.sink } in
    then_each known (λ bytes. EndsWith on None bytes a b k c.hold_with_hooks-in-None.result) (λ bytes. IsEnded on (option_map file_shown c.args.kept) bytes a b k c.kept_end-in-None.result)
    (λ bytes h. without (ap (option_map file_shown) c.in-None.is) c.hold_with_hooks-in-None.result c.kept_end-in-None.ensures h)
    c.hold_with_hooks-in-None.ensures
