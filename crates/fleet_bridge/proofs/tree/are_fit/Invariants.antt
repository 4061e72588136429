use Rattle.std.proofs.Common.{ℕ, ◌<◌}
use Rattle.fleet_bridge.specs.inside.Spanning.{IsFitIn}
use Rattle.fleet_bridge.proofs.tree.are_fit.Given as goal

abbrev pub invariant-loop-cell : goal.invariant-loop-cell
invariant-loop-cell g l = (c : ℕ) → c < l.cell → IsFitIn l.sides l.tree c
