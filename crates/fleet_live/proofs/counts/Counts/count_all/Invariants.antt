-- The entries that are counted, and then those that are left, are all.
use Rattle.std.proofs.Common.{◌≡◌, drop}
use Rattle.fleet_live.specs.Counts.{with_entries}
use Rattle.fleet_live.proofs.counts.Counts.count_all.Given as goal

abbrev pub invariant-loop-entry : goal.invariant-loop-entry
invariant-loop-entry l = with_entries l.self (drop l.entry-index l.entries) ≡ with_entries l.fn.self l.entries
