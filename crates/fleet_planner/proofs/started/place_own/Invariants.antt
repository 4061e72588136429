use Rattle.std.proofs.Common.{◌≡◌, vec_capacity}
use Rattle.fleet_planner.proofs.Starts.{ArePlacing}
use Rattle.fleet_planner.proofs.started.place_own.Given as goal

abbrev pub invariant-loop-at : goal.invariant-loop-at
invariant-loop-at g l = record {
  placing : ArePlacing l.turns l.fn.fresh.items l.fn.own.items l.at l.fresh.items l.own.items;
  room : vec_capacity l.fresh ≡ vec_capacity l.fn.fresh;
}
