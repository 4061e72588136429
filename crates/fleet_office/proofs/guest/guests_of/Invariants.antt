use Rattle.std.proofs.Common.{◌≡◌, ◌+◌, ◌≤◌, ◌++◌, length, vec_len}
use Rattle.std.specs.Vec.{vec_capacity}
use Rattle.std.specs.Vec.Iter.{into_iter_items, into_iter_len}
use Rattle.fleet_office.specs.Views.{AreOn, cores}
use Rattle.fleet_office.proofs.guest.guests_of.Given as goal

abbrev pub invariant-loop-client : goal.invariant-loop-client
invariant-loop-client g l =
    AreOn g.N.OfficeName.rings (cores (into_iter_items l.client-iterator))
    × (l.guests.items ++ into_iter_items l.client-iterator ≡ l.fn.clients.items)
    × (into_iter_len l.client-iterator ≡ length (into_iter_items l.client-iterator))
    × (vec_len l.guests + into_iter_len l.client-iterator ≤ vec_capacity l.guests)
