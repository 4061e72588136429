-- How many notices were told.
use Rattle.std.specs.Prelude.{ℕ, ◌+◌, ◌-◌, ◌^◌, min, slice_index, slice_set}
use Rattle.fleet_book.specs.declared.verdict.Verdict.{Verdict}
use Rattle.fleet_book.specs.declared.verdict.Verdict.TheVariants as verdict
use Rattle.live_parts.specs.declared.notices.Notices.{Notices}

-- the place of a verdict's kind among the 13
abbrev pub kind : Verdict → ℕ
kind (verdict.Accepted number) = 0
kind verdict.Closed = 1
kind verdict.Withdrawn = 2
kind verdict.ClientClosed = 3
kind verdict.NoRobot = 4
kind verdict.RobotShut = 5
kind verdict.NoCell = 6
kind verdict.Blocked = 7
kind verdict.Unreachable = 8
kind verdict.QueueFull = 9
kind verdict.LifeSpent = 10
kind verdict.NoErrand = 11
kind verdict.TooLate = 12

-- how many verdicts of this one's kind were told
abbrev pub told_count : Notices → Verdict → ℕ
told_count n v = slice_index n.verdicts (kind v)

-- a sum that stops at the greatest number of 64 bits
abbrev pub capped : ℕ → ℕ → ℕ
capped a b = min (a + b) (2 ^ 64 - 1)

-- how many errands are open, by what was told, where this many were open before: those that were accepted and neither withdrawn nor done
abbrev pub open_count : ℕ → Notices → ℕ
open_count before n = capped before (told_count n (verdict.Accepted 0)) - told_count n verdict.Withdrawn - n.arrived

-- the counts with one more verdict
abbrev pub with_verdict : Notices → Verdict → Notices
with_verdict n v = record n { verdicts = slice_set n.verdicts (kind v) (capped (told_count n v) 1) }

-- the counts with this many more arrivals
abbrev pub with_arrivals : Notices → ℕ → Notices
with_arrivals n arrivals = record n { arrived = capped n.arrived arrivals }
