-- The lines before these were read.
use Rattle.std.proofs.Common.{◌≡◌, ◌≤◌, ◌+◌, List, ℕ, ◌++◌, length}
use Rattle.fleet_map.specs.Text.{lines_of}
use Rattle.fleet_talk.specs.HeadFile.{SaysHead}
use Rattle.fleet_talk.specs.Heading.{drafted}
use Rattle.fleet_talk.proofs.heading.read_head.Given as goal

abbrev pub invariant-loop-line : goal.invariant-loop-line
invariant-loop-line l = record {
  few : l.number + length l.rest ≤ 16777217;
  said : (before : List (List ℕ)) × (lines_of l.bytes ≡ before ++ lines_of l.rest) × (l.number ≡ length before + 1) × SaysHead before (drafted l.head);
}

abbrev pub decreases-loop-line : goal.decreases-loop-line
decreases-loop-line l = length l.rest
