-- What a conversation with an open fleet comes to.
use Rattle.std.proofs.Common.{ℕ, List, Option, IfSome, sym, subst}
use Rattle.std.specs.Prelude.{OnOk}
use Rattle.std.specs.declared.alloc.Global.{Global}
use Rattle.std.specs.Io.Buffered.{reader_remaining}
use Rattle.fleet_world.specs.Keeps.{talk}
use Rattle.fleet_talk.specs.Chapters.{ChapterView, KeepsTurned}
use Rattle.fleet_talk.specs.Fleet.{opened_fleet}
use Rattle.fleet_talk.specs.Open.{fleet_of}
use Rattle.fleet_talk.specs.Resumed.{ComesOpen}
use Rattle.fleet_talk.proofs.Resumptions.{come-open}
use Rattle.fleet_talk.proofs.resumption.hold_open.Goals as goal

pub returns : goal.returns
returns g c =
    let before = g.S.ChapterSink.kept c.args.ends.now.sink in
    let mid = g.S.ChapterSink.kept c.back_up.new.sink in
    let after = g.S.ChapterSink.kept c.close.new.sink in
    subst (λ (q : List ℕ). IfSome (reader_remaining g.I.Read.remaining c.args.ends.now.input) (λ bytes. ComesOpen c.args.pen.now.settings c.args.door.now.refused.marks.items (opened_fleet (talk c.args.session)) bytes (g.W.Write.contents c.args.ends.now.output) (g.W.Write.contents c.answer_all-ended.new.ends.output) c.args.pen.now.out.items q (record { old = before; new = after }) c.close.result)) (sym c.back_up.ensures.out)
    (come-open c.args.pen.now.settings c.args.door.now.refused.marks.items before mid after (reader_remaining g.I.Read.remaining c.args.ends.now.input) (g.W.Write.contents c.args.ends.now.output) (g.W.Write.contents c.answer_all-ended.new.ends.output) c.args.pen.now.out.items c.answer_all-ended.new.pen.out.items (opened_fleet (talk c.args.session)) (fleet_of c.answer_all-ended.new.fleet) c.answer_all-ended.result c.close.result
    c.answer_all-ended.ensures.talks c.answer_all-ended.ensures.broken
    (subst (λ (known : Option (List (ChapterView Global))). OnOk c.answer_all-ended.result (KeepsTurned before known (talk c.args.session) (talk c.answer_all-ended.new.fleet.session))) (sym c.back_up.ensures.kept) c.answer_all-ended.ensures.kept)
    c.close.ensures.ended c.close.ensures.kept)
