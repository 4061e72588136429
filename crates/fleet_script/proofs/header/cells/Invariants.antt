use Rattle.std.proofs.Common.{length}
use Rattle.fleet_map.specs.Text.{words_of}
use Rattle.fleet_script.proofs.Starts.{IsRead}
use Rattle.fleet_script.proofs.header.cells.Given as goal

abbrev pub invariant-loop-word : goal.invariant-loop-word
invariant-loop-word g l = IsRead l.most (words_of l.words) l.cells.items (words_of l.rest)

abbrev pub decreases-loop-word : goal.decreases-loop-word
decreases-loop-word g l = length l.rest
