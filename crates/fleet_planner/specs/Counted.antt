-- What one more tick makes of a robot's goal.
use Rattle.std.specs.Prelude.{ℕ, List, [], ◌∷◌, Option, Some, None, ◌==◌, if◌then◌else◌, slice_get, slice_index}
use Rattle.fleet_queue.specs.declared.errand.Errand.{Errand}
use Rattle.fleet_planner.specs.Planned.{cell_of}

-- the goal after a tick that brings the robot to its cell in `to`, by its errands before: an arrival makes way for the
-- next errand
abbrev pub goal_ticked : List ℕ → ℕ → List Errand → Option ℕ
goal_ticked to r [] = None
goal_ticked to r (f ∷ rest) = if f.cell == slice_index to r then cell_of (slice_get rest 0) else Some f.cell
