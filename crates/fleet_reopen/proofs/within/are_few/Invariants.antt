use Rattle.std.proofs.Common.{◌≤◌, ◌<◌, ℕ}
use Rattle.std.specs.Prelude.{slice_index_or}
use Rattle.fleet_history.specs.History.{unknown_client}
use Rattle.fleet_reopen.proofs.within.are_few.Given as goal

abbrev pub invariant-loop-c : goal.invariant-loop-c
invariant-loop-c l = (q : ℕ) → q < l.c → (slice_index_or l.clients q unknown_client).taken ≤ l.most
