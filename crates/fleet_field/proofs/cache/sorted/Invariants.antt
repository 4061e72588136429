use Rattle.fleet_field.specs.inside.Sorted.{AreSorted}
use Rattle.fleet_field.proofs.cache.sorted.Given as goal

abbrev pub invariant-loop-at : goal.invariant-loop-at
invariant-loop-at g l = AreSorted l.kept.items l.goals l.at l.found.items l.missing.items
