use Rattle.std.proofs.Common.{◌≡◌, ◌+◌, ◌≤◌, ◌++◌, length, vec_len}
use Rattle.std.specs.Vec.{vec_capacity}
use Rattle.std.specs.Vec.Iter.{into_iter_items, into_iter_len}
use Rattle.fleet_office.specs.Views.{AreOn, cores}
use Rattle.fleet_office.proofs.guest.clients_of.Given as goal

abbrev pub invariant-loop-guest : goal.invariant-loop-guest
invariant-loop-guest g l =
    AreOn g.N.OfficeName.rings (cores l.clients.items)
    × (l.clients.items ++ into_iter_items l.guest-iterator ≡ l.fn.guests.items)
    × (into_iter_len l.guest-iterator ≡ length (into_iter_items l.guest-iterator))
    × (vec_len l.clients + into_iter_len l.guest-iterator ≤ vec_capacity l.clients)
