use Rattle.std.proofs.Common.{length}
use Rattle.fleet_journal.specs.inside.Reading.{HasRead}
use Rattle.fleet_journal.proofs.read.entries_in.Given as goal

abbrev pub invariant-loop-line : goal.invariant-loop-line
invariant-loop-line l = HasRead l.bytes l.rest l.entries.items

abbrev pub decreases-loop-line : goal.decreases-loop-line
decreases-loop-line l = length l.rest
