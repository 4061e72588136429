use Rattle.std.proofs.Common.{◌≡◌, ◌≤◌, List, ℕ, length, take}
use Rattle.fleet_field.specs.inside.Labels.{label, IsReady, Runs}
use Rattle.fleet_field.proofs.search.search.Given as goal

abbrev pub invariant-loop : goal.invariant-loop
invariant-loop g l = record {
  len : length l.labels.items ≡ length l.fn.unseen.items;
  within : l.count ≤ length l.now.items;
  marked : l.mark ≡ label l.counter;
  runs : (blank : List ℕ) → IsReady blank l.stride l.goal l.fn.unseen.items → Runs blank l.stride l.goal l.counter (take l.count l.now.items) l.labels.items;
}
