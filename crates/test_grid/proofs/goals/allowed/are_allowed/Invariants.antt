use Rattle.std.proofs.Common.{◌≡◌, ℕ, ◌<◌, Some, None, get_or}
use Rattle.fleet_grid.specs.Floor.{IsFloor}
use Rattle.test_grid.proofs.goals.allowed.are_allowed.Given as goal

abbrev pub invariant-loop-turn : goal.invariant-loop-turn
invariant-loop-turn l = record {
  known : (i : ℕ) → i < l.turn-index → (get_or l.turns i (record { robot = 0; goal = None })).robot < l.robots;
  floor : (i cell : ℕ) → i < l.turn-index → (get_or l.turns i (record { robot = 0; goal = None })).goal ≡ Some cell → IsFloor l.grid cell;
}
