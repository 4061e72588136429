use Rattle.std.proofs.lemmas.List.Sorted.{IsNonDecreasingBy-from_sort}
use Rattle.fleet_stats.proofs.spread.ordered.Goals as goal

pub returns : goal.returns
returns c = record { same = c.sort_unstable.ensures.permutation; rising = IsNonDecreasingBy-from_sort (λ x. x) c.sort_unstable.new.self.items c.sort_unstable.ensures.sorted }
