use Rattle.std.proofs.Common.{◌≡◌, ◌<◌, ◌≤◌, ℕ, length, take, slice_index}
use Rattle.fleet_stats.specs.Figures.{count_of}
use Rattle.fleet_stats.proofs.tables.count_all.Given as goal

abbrev pub invariant-loop-number : goal.invariant-loop-number
invariant-loop-number l = (k : ℕ) → k < length l.counts → slice_index l.counts k ≡ count_of (take l.number-index l.numbers) k
