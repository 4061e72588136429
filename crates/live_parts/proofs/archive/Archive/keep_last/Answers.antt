-- Those that waited were kept, and then the last.
use Rattle.std.proofs.Common.{subst}
use Rattle.fleet_talk.specs.Chapters.{chapter_shown}
use Rattle.live_parts.specs.Kept.{KeepsFirst}
use Rattle.live_parts.proofs.Keeping.{then-last}
use Rattle.live_parts.proofs.archive.Archive.keep_last.Goals as goal

pub returns : goal.returns
returns g c = record {
  kept = then-last c.args.self.now.waiting (g.S.ChapterSink.kept c.args.self.now.sink) (g.S.ChapterSink.kept c.keep_on.new.sink) (g.S.ChapterSink.kept c.keep.new.self) (chapter_shown c.args.chapter.now)
      (subst (λ left. KeepsFirst c.args.self.now.waiting left (g.S.ChapterSink.kept c.args.self.now.sink) (g.S.ChapterSink.kept c.keep_on.new.sink)) c.in_ok-keep_on.ensures.none c.keep_on.ensures.kept)
      c.in_ok-keep.ensures.ok;
}
