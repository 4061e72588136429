use Rattle.std.proofs.Common.{◌≡◌, length}
use Rattle.fleet_pibt.specs.inside.Entry.{IsEmpty}
use Rattle.fleet_pibt.proofs.tables.fetch.Given as goal

abbrev pub invariant-loop-around : goal.invariant-loop-around
invariant-loop-around g l = record { same_length : length l.seats.standing ≡ length l.initial.seats.standing; blank : IsEmpty l.seats.standing; holder : l.seats.holder ≡ l.initial.seats.holder }
