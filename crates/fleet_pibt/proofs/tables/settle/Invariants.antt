use Rattle.std.proofs.Common.{◌≡◌}
use Rattle.fleet_pibt.proofs.Entries.{IsSettled}
use Rattle.fleet_pibt.proofs.tables.settle.Given as goal

abbrev pub invariant-loop-robot : goal.invariant-loop-robot
invariant-loop-robot g l = record {
  standing : l.board.seats.standing ≡ l.initial.board.seats.standing;
  settled : IsSettled l.initial.board.target l.initial.board.seats.holder l.board.target l.board.seats.holder l.to l.robot;
}
