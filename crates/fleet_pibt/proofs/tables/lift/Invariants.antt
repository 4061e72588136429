use Rattle.std.proofs.Common.{◌≡◌, length}
use Rattle.fleet_pibt.proofs.Entries.{Rests}
use Rattle.fleet_pibt.proofs.tables.lift.Given as goal

abbrev pub invariant-loop-cell : goal.invariant-loop-cell
invariant-loop-cell g l = record { same_length : length l.seats.standing ≡ length l.initial.seats.standing; rests : Rests l.from l.seats.standing l.cell-index; holder : l.seats.holder ≡ l.initial.seats.holder }
