use Rattle.std.proofs.Common.{ℕ, ◌<◌, slice_index_or}
use Rattle.fleet_history.specs.History.{unknown_client}
use Rattle.fleet_history.specs.Legal.{IsClientInOrder, owed_at}
use Rattle.fleet_trace.specs.inside.Opened.{AreClientNamesInOrder}
use Rattle.fleet_trace.proofs.judging.clients.client_fault.Given as goal

abbrev pub invariant-loop-c : goal.invariant-loop-c
invariant-loop-c g l = record {
  clients : (c : ℕ) → c < l.c → IsClientInOrder l.opening.life (owed_at l.opening c) (slice_index_or l.opening.clients c unknown_client);
  names : (c : ℕ) → c < l.c → AreClientNamesInOrder l.opening.robots c;
}
