use Rattle.std.proofs.Common.{◌≡◌, ◌≢◌, ◌<◌, ℕ}
use Rattle.std.specs.Prelude.{slice_index}
use Rattle.fleet_roomy.proofs.full.robot_on.Given as goal

-- nobody before stands on it
abbrev pub invariant-loop-robot : goal.invariant-loop-robot
invariant-loop-robot l = record { none : (r : ℕ) → r < l.robot → slice_index l.cells r ≢ l.cell }
