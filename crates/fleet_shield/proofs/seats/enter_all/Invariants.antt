use Rattle.std.proofs.Common.{◌≡◌, length}
use Rattle.fleet_shield.proofs.Entering.{IsEnteredTo}
use Rattle.fleet_shield.proofs.seats.enter_all.Given as goal

abbrev pub invariant-loop-place : goal.invariant-loop-place
invariant-loop-place l = record {
  size : length l.table ≡ length l.initial.table;
  entered : IsEnteredTo l.list l.table l.place;
}
