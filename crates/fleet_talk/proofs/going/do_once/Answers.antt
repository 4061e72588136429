-- A chapter that was handed out was kept, and then said.
use Rattle.std.proofs.Common.{List, [], ◌∷◌, Option, subst, sym}
use Rattle.std.specs.declared.alloc.Global.{Global}
use Rattle.fleet_history.specs.declared.history.Chapter.{Chapter}
use Rattle.fleet_talk.specs.Act.{act_asked}
use Rattle.fleet_talk.specs.Chapters.{Adds, ChapterView, chapter_shown}
use Rattle.fleet_talk.specs.Journal.{JournalView, Logs}
use Rattle.fleet_talk.specs.Lines.{line_shown}
use Rattle.fleet_talk.specs.Once.{Comes}
use Rattle.fleet_talk.specs.Open.{fleet_of}
use Rattle.fleet_talk.proofs.Growing.{once-handed, once-same}
use Rattle.fleet_talk.proofs.Onces.{once-kept, once-turned}
use Rattle.fleet_talk.proofs.going.do_once.Goals as goal

pub returns-in_ok-turned-in-Some-clause-ok : goal.returns-in_ok-turned-in-Some-clause-ok
returns-in_ok-turned-in-Some-clause-ok g c =
    once-turned c.args.pen.now.settings.roll (fleet_of c.args.fleet.now) (fleet_of c.hear.new.fleet) (fleet_of c.turned.new.fleet) (act_asked (line_shown c.args.line) c.args.line.asked) c.in_ok-chapter.field-0 c.in-Some.chapter
    c.args.pen.now c.hear.new.pen c.turned.new.pen c.in_ok-chapter.ensures.ok c.in-Some.is c.in_ok-turned-in-Some.ensures.ok

pub returns-in_ok-turned-in-Some-clause-kept : goal.returns-in_ok-turned-in-Some-clause-kept
returns-in_ok-turned-in-Some-clause-kept g c =
    once-kept c.args.pen.now.settings.roll (g.S.ChapterSink.kept c.args.sink.now) (g.S.ChapterSink.kept c.keep.new.self) (fleet_of c.args.fleet.now) (fleet_of c.hear.new.fleet) (fleet_of c.turned.new.fleet) (act_asked (line_shown c.args.line) c.args.line.asked) c.in_ok-chapter.field-0 c.in-Some.chapter
    c.args.pen.now c.hear.new.pen c.in_ok-chapter.ensures.ok c.in-Some.is
    (subst (λ (known : Option (List (ChapterView Global))). Adds known (g.S.ChapterSink.kept c.keep.new.self) (chapter_shown c.in-Some.chapter ∷ [])) c.log-is_logged.ensures.kept c.in_ok-keep-in-Some.ensures.ok) c.in_ok-turned-in-Some.ensures.same

pub returns-in_ok-turned-in-Some-clause-logged : goal.returns-in_ok-turned-in-Some-clause-logged
returns-in_ok-turned-in-Some-clause-logged g c chapters stands =
    let (text, on, added) = c.in_ok-turned-in-Some.ensures.ok in
    once-handed c.args.pen.now.settings.roll (fleet_of c.args.fleet.now) (fleet_of c.hear.new.fleet) (fleet_of c.turned.new.fleet) (act_asked (line_shown c.args.line) c.args.line.asked) c.in_ok-chapter.field-0 c.in-Some.chapter
    c.args.pen.now c.hear.new.pen text chapters (g.S.ChapterSink.journal c.args.sink.now) (g.S.ChapterSink.journal c.keep.new.self) c.log-is_logged.result c.in_ok-chapter.ensures.ok c.in-Some.is
    (subst (λ (k : JournalView). Logs (g.S.ChapterSink.journal c.args.sink.now) k (chapter_shown c.in-Some.chapter) c.log-is_logged.result) (sym c.keep.ensures.journal) c.log-is_logged.ensures.logs) on c.in_ok-turned-in-Some.ensures.same stands

pub returns-in-None-clause-logged : goal.returns-in-None-clause-logged
returns-in-None-clause-logged g c chapters stands =
    once-same c.args.pen.now.settings.roll (fleet_of c.args.fleet.now) (fleet_of c.hear.new.fleet) (act_asked (line_shown c.args.line) c.args.line.asked) c.args.pen.now c.hear.new.pen chapters (g.S.ChapterSink.journal c.args.sink.now)
    (subst (λ (o : Option (Chapter Global)). Comes c.args.pen.now.settings.roll (fleet_of c.args.fleet.now) (act_asked (line_shown c.args.line) c.args.line.asked) o c.args.pen.now c.hear.new.pen (fleet_of c.hear.new.fleet)) c.in-None.is c.in_ok-chapter.ensures.ok) stands
