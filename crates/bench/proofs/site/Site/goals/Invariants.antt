use Rattle.std.proofs.Common.{◌≡◌, ◌≤◌, vec_len, vec_capacity}
use Rattle.bench.specs.Fleet.{AreWithin}
use Rattle.bench.proofs.site.Site.goals.Given as goal

abbrev pub invariant-loop : goal.invariant-loop
invariant-loop l = record { count : vec_len l.goals ≡ l.counter; room : l.count ≤ vec_capacity l.goals; within : AreWithin l.self.grid l.self.home l.goals.items }
