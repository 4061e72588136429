use Rattle.std.proofs.Common.{◌≡◌, ◌≢◌, ℕ, ◌<◌, length, slice_index, None}
use Rattle.fleet_shield.specs.Wishes.{wishes}
use Rattle.fleet_shield.specs.inside.Board.{undecided, IsHolding, IsBoard}
use Rattle.fleet_shield.specs.inside.First.{IsBlank, HasFirst}
use Rattle.fleet_shield.proofs.plan.plan_all.Given as goal

abbrev pub invariant-loop-robot : goal.invariant-loop-robot
invariant-loop-robot l = record {
  holding : IsHolding (length l.scene.from.now) (length l.scene.standing.now) l.to l.holder;
  board : IsBoard (wishes l.scene.from.now l.scene.preferences) l.to l.tried None;
  decided : (j : ℕ) → j < l.robot-index → slice_index l.to (slice_index l.order j) ≢ undecided;
  start : l.robot-index ≡ 0 → IsBlank (wishes l.scene.from.now l.scene.preferences) l.to l.tried;
  first : 0 < l.robot-index → HasFirst (wishes l.scene.from.now l.scene.preferences) l.to (slice_index l.order 0);
}
