-- The chapters that are counted, and then those that are left, are all.
use Rattle.std.proofs.Common.{◌≡◌, drop, map}
use Rattle.fleet_talk.specs.Chapters.{chapter_shown}
use Rattle.fleet_live.specs.Counts.{with_handed}
use Rattle.fleet_live.proofs.counts.Counts.count_handed.Given as goal

abbrev pub invariant-loop-chapter : goal.invariant-loop-chapter
invariant-loop-chapter l = with_handed l.self (map chapter_shown (drop l.chapter-index l.handed)) ≡ with_handed l.fn.self (map chapter_shown l.handed)
