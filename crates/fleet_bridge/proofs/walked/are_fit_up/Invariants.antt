use Rattle.std.proofs.Common.{ℕ, ◌<◌}
use Rattle.fleet_bridge.specs.inside.Spanning.{IsFitUpIn}
use Rattle.fleet_bridge.proofs.walked.are_fit_up.Given as goal

abbrev pub invariant-loop-cell : goal.invariant-loop-cell
invariant-loop-cell g l = (c : ℕ) → c < l.cell → IsFitUpIn l.sides l.tree c
