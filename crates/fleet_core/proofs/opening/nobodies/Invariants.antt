use Rattle.std.proofs.Common.{◌≡◌, ◌≤◌, replicate, vec_len, vec_capacity}
use Rattle.fleet_history.specs.History.{unknown_client}
use Rattle.fleet_core.proofs.opening.nobodies.Given as goal

abbrev pub invariant-loop-i : goal.invariant-loop-i
invariant-loop-i g l = record {
  clients : l.clients.items ≡ replicate l._i unknown_client;
  len : vec_len l.clients ≡ l._i;
  room : l.count ≤ vec_capacity l.clients;
}
