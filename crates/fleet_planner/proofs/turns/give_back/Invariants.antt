use Rattle.std.proofs.Common.{ℕ, List, Option, drop}
use Rattle.fleet_grid.specs.Floor.{Floor}
use Rattle.fleet_field.specs.Store.{Keeps, Serves}
use Rattle.fleet_planner.specs.Keys.{AreCounted, AreKept}
use Rattle.fleet_planner.proofs.turns.give_back.Given as goal

abbrev pub invariant-loop-at : goal.invariant-loop-at
invariant-loop-at g l = record {
  counted : (keys : List (Option ℕ)) → AreCounted l.fn.store keys l.fresh.items → AreCounted l.store keys (drop l.at l.fresh.items);
  kept : AreKept l.fn.store l.store;
  keeps : (m : Floor) → Serves m l.fn.store → Keeps m l.fn.cache → Keeps m l.cache;
}
