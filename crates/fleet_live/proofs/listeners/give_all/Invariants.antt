-- What was given, and what is left, are all of them in their order.
use Rattle.std.proofs.Common.{◌≡◌, ◌++◌, length, map}
use Rattle.rtrb.specs.Ring.{sent}
use Rattle.fleet_talk.specs.Chapters.{chapter_shown}
use Rattle.live_parts.specs.Kept.{AreSound}
use Rattle.fleet_live.proofs.listeners.give_all.Given as goal

abbrev pub invariant-loop-chapters : goal.invariant-loop-chapters
invariant-loop-chapters g l = record {
  all : sent l.ring ++ l.chapters.items ≡ sent l.fn.ring ++ l.fn.chapters.items;
  sound : AreSound (map chapter_shown l.chapters.items);
}

abbrev pub decreases-loop-chapters : goal.decreases-loop-chapters
decreases-loop-chapters g l = length l.chapters.items
