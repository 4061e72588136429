-- The first chapter was kept, and is removed.
use Rattle.std.proofs.Common.{rules, ◌∙◌, ◌<◌, ◌∷◌, length, map, ap, sym}
use Rattle.fleet_talk.specs.Chapters.{chapter_shown}
use Rattle.live_parts.specs.Kept.{IsKeepable}
use Rattle.live_parts.proofs.Keeping.{all-left, first-is, keeps-next}
use Rattle.live_parts.proofs.unkept.keep_from_front.Goals as goal

pub loop-chapter-preserved : goal.loop-chapter-preserved
loop-chapter-preserved g c =
    let xs = c.loop-chapter.chapters.items in
    let ys = c.pop_front.new.self.items in
    let x = c.in-Some.chapter.now in
    let some : 0 < length c.loop-chapter.chapters.items = search rules in
    let is = first-is xs x some c.in-Some.ensures.lookup ∙ ap (λ l. x ∷ l) (sym c.pop_front.ensures.rest) in
    record {
      kept = keeps-next chapter_shown (map chapter_shown c.args.chapters.now.items) xs ys x (g.S.ChapterSink.kept c.args.sink.now) (g.S.ChapterSink.kept c.loop-chapter.sink) (g.S.ChapterSink.kept c.keep.new.self) is c.loop-chapter.invariant.kept c.in_ok-keep.ensures.ok;
      sound = all-left IsKeepable chapter_shown xs ys x is c.loop-chapter.invariant.sound;
    }
