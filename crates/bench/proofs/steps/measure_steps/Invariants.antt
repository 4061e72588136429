use Rattle.std.proofs.Common.{◌≡◌, vec_len}
use Rattle.bench.proofs.steps.measure_steps.Given as goal

abbrev pub invariant-loop : goal.invariant-loop
invariant-loop g l = vec_len l.ties ≡ l.counter
