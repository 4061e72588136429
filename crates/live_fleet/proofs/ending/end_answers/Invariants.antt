-- The answers of those before this one are ended.
use Rattle.std.proofs.Common.{◌≡◌, ◌++◌, List, map, take, drop}
use Rattle.live_fleet.specs.Ending.{at_end}
use Rattle.live_fleet.proofs.ending.end_answers.Given as goal

abbrev pub invariant-loop-to : goal.invariant-loop-to
invariant-loop-to l = l.speakers ≡ map at_end (take l.to l.fn.speakers) ++ drop l.to l.fn.speakers
