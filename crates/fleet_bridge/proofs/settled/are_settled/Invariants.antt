use Rattle.std.proofs.Common.{ℕ, ◌<◌}
use Rattle.std.specs.Prelude.{slice_index}
use Rattle.fleet_grid.specs.Floor.{IsFloor}
use Rattle.fleet_bridge.specs.inside.Preorder.{IsSettledIn}
use Rattle.fleet_bridge.proofs.settled.are_settled.Given as goal

abbrev pub invariant-loop-cell : goal.invariant-loop-cell
invariant-loop-cell g l = (c : ℕ) → c < l.cell → IsFloor l.sides c → IsSettledIn l.sides l.tree (slice_index l.most.items) c
