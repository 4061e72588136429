use Rattle.std.proofs.Common.{◌+◌, ◌≤◌, vec_len, vec_capacity}
use Rattle.std.specs.Vec.Iter.{into_iter_len}
use Rattle.depot.proofs.depot.home_of.Given as goal

abbrev pub invariant-loop-worker : goal.invariant-loop-worker
invariant-loop-worker g l =
    (vec_len l.guests + into_iter_len l.worker-iterator ≤ vec_capacity l.guests)
    × (vec_len l.tallies + into_iter_len l.worker-iterator ≤ vec_capacity l.tallies)
