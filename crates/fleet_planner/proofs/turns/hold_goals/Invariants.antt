use Rattle.std.proofs.Common.{◌≡◌, vec_capacity}
use Rattle.fleet_field.specs.Store.{Serves, Keeps}
use Rattle.fleet_planner.proofs.Holding.{AreHolding}
use Rattle.fleet_planner.proofs.turns.hold_goals.Given as goal

abbrev pub invariant-loop-turn : goal.invariant-loop-turn
invariant-loop-turn g l = record {
  holding : AreHolding l.turns l.fn.store l.turn-index l.store l.fresh.items;
  serves : Serves l.grid l.store;
  keeps : Keeps l.grid l.cache;
  room : vec_capacity l.fresh ≡ vec_capacity l.fn.fresh;
}
