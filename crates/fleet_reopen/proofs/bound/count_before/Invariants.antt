use Rattle.std.proofs.Common.{◌≡◌}
use Rattle.std.specs.Prelude.{None, count_by, slice_index_or}
use Rattle.std.specs.List.{range_with_len}
use Rattle.fleet_bound.specs.Waiting.{comes_before}
use Rattle.fleet_reopen.proofs.bound.count_before.Given as goal

abbrev pub invariant-loop-q : goal.invariant-loop-q
invariant-loop-q l = l.count ≡ count_by (λ q. comes_before (slice_index_or l.waits q None) q l.wait l.r) (range_with_len 0 l.q)
