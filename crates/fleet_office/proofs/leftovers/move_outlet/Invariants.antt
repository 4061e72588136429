use Rattle.std.proofs.Common.{◌≡◌, ◌+◌, ◌++◌, length, vec_len}
use Rattle.std.specs.Prelude.{vec_capacity}
use Rattle.fleet_office.proofs.leftovers.move_outlet.Given as goal

abbrev pub invariant-loop : goal.invariant-loop
invariant-loop g l =
    (l.out.items ++ l.client.known ≡ l.fn.out.items ++ l.fn.client.known)
    × (length l.client.known + l.counter ≡ length l.fn.client.known)
    × (vec_len l.out + length l.client.known ≡ vec_len l.fn.out + length l.fn.client.known)
    × (vec_capacity l.out ≡ vec_capacity l.fn.out)
