use Rattle.std.proofs.Common.{◌≡◌, length}
use Rattle.fleet_pibt.specs.inside.Tables.{IsPlaced}
use Rattle.fleet_pibt.proofs.tables.place.Given as goal

abbrev pub invariant-loop-robot : goal.invariant-loop-robot
invariant-loop-robot g l = record { same_length : length l.seats.standing ≡ length l.initial.seats.standing; placed : IsPlaced l.from l.seats.standing l.robot; holder : l.seats.holder ≡ l.initial.seats.holder }
