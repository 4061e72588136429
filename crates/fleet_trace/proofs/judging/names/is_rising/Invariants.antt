use Rattle.std.proofs.Common.{ℕ, ◌<◌}
use Rattle.fleet_trace.specs.inside.Opened.{IsNamed, IsGreatest}
use Rattle.fleet_trace.proofs.judging.names.is_rising.Given as goal

abbrev pub invariant-loop-errand : goal.invariant-loop-errand
invariant-loop-errand l = record {
  greatest : IsGreatest l.errands l.client l.errand-index l.last;
  rising : (i j n k : ℕ) → i < j → j < l.errand-index → IsNamed l.errands l.client n i → IsNamed l.errands l.client k j → n < k;
}
