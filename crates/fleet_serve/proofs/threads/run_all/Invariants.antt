use Rattle.std.proofs.Common.{◌+◌, ◌≤◌, vec_len, vec_capacity}
use Rattle.std.specs.Vec.Iter.{into_iter_len}
use Rattle.fleet_serve.proofs.threads.run_all.Given as goal

abbrev pub invariant-loop-thread : goal.invariant-loop-thread
invariant-loop-thread g l = vec_len l.ran + into_iter_len l.thread-iterator ≤ vec_capacity l.ran
