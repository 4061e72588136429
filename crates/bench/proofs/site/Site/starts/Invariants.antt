use Rattle.std.proofs.Common.{◌≤◌, vec_len, vec_capacity}
use Rattle.bench.specs.Fleet.{AreStarts}
use Rattle.bench.proofs.site.Site.starts.Given as goal

abbrev pub invariant-loop : goal.invariant-loop
invariant-loop l = record {
  few : vec_len l.starts ≤ l.count;
  room : l.count ≤ vec_capacity l.starts;
  starts : AreStarts l.self.grid l.self.home l.taken.items l.starts.items;
}
