use Rattle.std.proofs.Common.{◌≡◌, ◌≤◌, vec_len, vec_capacity}
use Rattle.bench.specs.Fleet.{Serves}
use Rattle.bench.proofs.site.Site.fields.Given as goal

abbrev pub invariant-loop : goal.invariant-loop
invariant-loop l = record { count : vec_len l.fields ≡ l.counter; room : l.count ≤ vec_capacity l.fields; serves : Serves l.self.grid l.self.home l.fields.items }
