use Rattle.std.proofs.Common.{ℕ, ◌<◌}
use Rattle.fleet_grid.specs.Floor.{IsFloor}
use Rattle.fleet_bridge.specs.inside.Preorder.{IsWholeIn}
use Rattle.fleet_bridge.proofs.preorder.are_whole.Given as goal

abbrev pub invariant-loop-cell : goal.invariant-loop-cell
invariant-loop-cell g l = (c : ℕ) → c < l.cell → IsFloor l.sides c → IsWholeIn l.sides l.tree c
