use Rattle.std.proofs.Common.{◌≡◌, [], slice_index_or}
use Rattle.fleet_map.specs.Text.{words_of}
use Rattle.fleet_plans.proofs.scenario.word_at.Given as goal

abbrev pub invariant-loop-left : goal.invariant-loop-left
invariant-loop-left l = slice_index_or (words_of l.rest) l.left [] ≡ slice_index_or (words_of l.line) l.place []

abbrev pub decreases-loop-left : goal.decreases-loop-left
decreases-loop-left l = l.left
