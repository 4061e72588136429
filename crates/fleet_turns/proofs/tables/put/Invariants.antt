use Rattle.std.proofs.Common.{◌≡◌, length, drop}
use Rattle.fleet_planner.specs.Turned.{turned}
use Rattle.fleet_turns.proofs.tables.put.Given as goal

abbrev pub invariant-loop-at : goal.invariant-loop-at
invariant-loop-at l = record {
  many : length l.goals ≡ length l.fn.goals;
  rest : turned l.turns l.fn.goals ≡ turned (drop l.at l.turns) l.goals;
}
