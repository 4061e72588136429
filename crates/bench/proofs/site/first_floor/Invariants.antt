use Rattle.std.proofs.Common.{ℕ, ◌<◌}
use Rattle.fleet_grid.specs.Floor.{IsFloor}
use Rattle.bench.proofs.site.first_floor.Given as goal

abbrev pub invariant-loop-cell : goal.invariant-loop-cell
invariant-loop-cell l = (c : ℕ) → c < l.cell → IsFloor l.grid c → ⊥
