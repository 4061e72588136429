-- The program's hooks have its laws.
use Rattle.std.proofs.Common.{Option, IfSome, refl, subst}
use Rattle.std.specs.Option.{option_map}
use Rattle.std.specs.Io.Buffered.{reader_remaining}
use Rattle.fleet_text.specs.Kit.{KitLaws}
use Rattle.fleet_text.proofs.Kits.{laws-are, kit-is}
use Rattle.fleet_talk.specs.Chapters.{chapter_shown}
use Rattle.fleet_talk.specs.Conversation.{KeptChapters, Terms}
use Rattle.fleet_talk.specs.Heading.{drafted}
use Rattle.fleet_lib.specs.Ended.{EndsWith, terms_of, unheld}
use Rattle.fleet_lib.proofs.Endings.{no_memory, of_each}
use Rattle.fleet_lib.proofs.holding.hold_with_hooks.Goals as goal

pub returns : goal.returns
returns g c =
    let known = reader_remaining g.I.Read.remaining c.args.ends.now.input in
    let a = g.W.Write.contents c.args.ends.now.output in
    let b = g.W.Write.contents c.hold_on.new.ends.output in
    let k : KeptChapters = record { old = g.S.ChapterSink.kept c.args.ends.now.sink; new = g.S.ChapterSink.kept c.hold_on.new.ends.sink } in
    let plain = laws-are (λ h. h.law) (λ h. h.law) (λ h. h.law) 512 _ _ _
    c.in_ok-plain.ensures.ties c.fixed.ensures.law c.in_ok-plain.ensures.arrivals c.fixed-2.ensures.law c.in_ok-plain.ensures.farewells c.fixed-3.ensures.law in
    let south = laws-are (λ h. h.law) (λ h. h.law) (λ h. h.law) 512 _ _ _
    c.in_ok-south.ensures.ties c.south_first.ensures.law c.in_ok-south.ensures.arrivals c.by_tick.ensures.law c.in_ok-south.ensures.farewells c.by_cell.ensures.law in
    subst (λ (laws : KitLaws). IfSome known (λ bytes. EndsWith (record { kit = laws; floor = c.args.ground.0; settings = c.args.settings; head = drafted c.args.ground.1 }) (option_map chapter_shown c.args.kept) bytes a b k c.hold_on.result)) (kit-is plain south) c.hold_on.ensures

pub returns-in_err-plain : goal.returns-in_err-plain
returns-in_err-plain g c =
    let a = g.W.Write.contents c.args.ends.now.output in
    let k : KeptChapters = record { old = g.S.ChapterSink.kept c.args.ends.now.sink; new = g.S.ChapterSink.kept c.args.ends.now.sink } in
    of_each _ (λ bytes. EndsWith (terms_of c.args.ground.0 (drafted c.args.ground.1) c.args.settings) (option_map chapter_shown c.args.kept) bytes a a k _) (λ bytes. unheld (no_memory _ c.from_residual.ensures.1) refl refl)

pub returns-in_err-south : goal.returns-in_err-south
returns-in_err-south g c =
    let a = g.W.Write.contents c.args.ends.now.output in
    let k : KeptChapters = record { old = g.S.ChapterSink.kept c.args.ends.now.sink; new = g.S.ChapterSink.kept c.args.ends.now.sink } in
    of_each _ (λ bytes. EndsWith (terms_of c.args.ground.0 (drafted c.args.ground.1) c.args.settings) (option_map chapter_shown c.args.kept) bytes a a k _) (λ bytes. unheld (no_memory _ c.from_residual-in_err-south.ensures.1) refl refl)
