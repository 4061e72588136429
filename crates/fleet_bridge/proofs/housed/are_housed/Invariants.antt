use Rattle.std.proofs.Common.{ℕ, ◌<◌}
use Rattle.fleet_grid.specs.Floor.{IsFloor}
use Rattle.fleet_bridge.specs.inside.Housed.{IsHousedIn}
use Rattle.fleet_bridge.proofs.housed.are_housed.Given as goal

abbrev pub invariant-loop-cell : goal.invariant-loop-cell
invariant-loop-cell g l = (c : ℕ) → c < l.cell → IsFloor l.sides c → IsHousedIn l.sides l.tree l.layout c
