use Rattle.std.proofs.Common.{◌≡◌, ◌+◌, ◌≤◌, drop}
use Rattle.fleet_grid.specs.Turns.{turns_after}
use Rattle.fleet_grid.proofs.turns.turns_of.Given as goal

abbrev pub invariant-loop-byte : goal.invariant-loop-byte
invariant-loop-byte l = record {
  so_far : l.turns + turns_after l.before (drop l.byte-index l.ways) ≡ turns_after 0 l.ways;
  few : l.turns ≤ l.byte-index;
}
