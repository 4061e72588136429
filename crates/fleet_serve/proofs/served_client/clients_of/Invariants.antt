use Rattle.std.proofs.Common.{◌+◌, ◌≤◌, vec_len}
use Rattle.std.specs.Vec.{vec_capacity}
use Rattle.std.specs.Vec.Iter.{into_iter_len}
use Rattle.fleet_office.specs.Views.{AreOn, cores}
use Rattle.fleet_serve.specs.Posted.{AllHaveRun}
use Rattle.fleet_serve.proofs.served_client.clients_of.Given as goal

abbrev pub invariant-loop-one : goal.invariant-loop-one
invariant-loop-one g l =
    AreOn g.N.OfficeName.rings (cores l.clients.items)
    × AllHaveRun g.N.ScriptName.events g.N.ScriptName.orders l.clients.items l.lane_full
    × (vec_len l.clients + into_iter_len l.one-iterator ≤ vec_capacity l.clients)
