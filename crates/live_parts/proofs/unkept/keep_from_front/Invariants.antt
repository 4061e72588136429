-- Some chapters were kept, and the others are left.
use Rattle.std.proofs.Common.{map, length}
use Rattle.fleet_talk.specs.Chapters.{chapter_shown}
use Rattle.live_parts.specs.Kept.{AreSound, KeepsFirst}
use Rattle.live_parts.proofs.unkept.keep_from_front.Given as goal

abbrev pub invariant-loop-chapter : goal.invariant-loop-chapter
invariant-loop-chapter g l = record {
  kept : KeepsFirst (map chapter_shown l.fn.chapters.items) (map chapter_shown l.chapters.items) (g.S.ChapterSink.kept l.fn.sink) (g.S.ChapterSink.kept l.sink);
  sound : AreSound (map chapter_shown l.chapters.items);
}

abbrev pub decreases-loop-chapter : goal.decreases-loop-chapter
decreases-loop-chapter g l = length l.chapters.items
