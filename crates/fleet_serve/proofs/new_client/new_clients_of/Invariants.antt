use Rattle.std.proofs.Common.{◌+◌, ◌≤◌, vec_len}
use Rattle.std.specs.Vec.{vec_capacity}
use Rattle.std.specs.Vec.Iter.{into_iter_items, into_iter_len}
use Rattle.fleet_office.specs.Views.{AreOn, cores}
use Rattle.fleet_serve.specs.Posted.{AreNew}
use Rattle.fleet_serve.proofs.new_client.new_clients_of.Given as goal

abbrev pub invariant-loop-client : goal.invariant-loop-client
invariant-loop-client g l =
    AreOn g.N.OfficeName.rings (cores (into_iter_items l.client-iterator))
    × AreNew g.N.ScriptName.orders (into_iter_items l.client-iterator)
    × (vec_len l.new_clients + into_iter_len l.client-iterator ≤ vec_capacity l.new_clients)
