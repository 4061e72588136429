use Rattle.std.proofs.Common.{ℕ, ◌<◌}
use Rattle.fleet_grid.specs.Floor.{IsFloor}
use Rattle.fleet_turns.specs.inside.Checked.{IsAwayAt}
use Rattle.fleet_turns.proofs.distances.are_away.Given as goal

abbrev pub invariant-loop-cell : goal.invariant-loop-cell
invariant-loop-cell g l = (c : ℕ) → c < l.cell → IsFloor l.grid c → IsAwayAt l.grid l.core l.away c
