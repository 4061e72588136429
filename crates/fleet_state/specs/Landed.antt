-- What a tick does to a robot: the errand that it finishes where it stands, and its wait.
use Rattle.std.specs.Prelude.{ℕ, Bool, false, ◌&&◌, List, [], ◌∷◌, Option, Some, None, ◌==◌, if◌then◌else◌}
use Rattle.fleet_queue.specs.declared.errand.Errand.{Errand}
use Rattle.fleet_queue.specs.Queue.{Queue}
use Rattle.fleet_history.specs.Legal.{is_none_left}
use Rattle.fleet_history.specs.Waited.{wait_anew, one_more}

-- the front errand of a robot that stands on its cell
abbrev pub landing : ℕ → List Errand → Option Errand
landing cell [] = None
landing cell (f ∷ rest) = if f.cell == cell then Some f else None

-- the wait after a tick that brings the robot to the cell, by its errands and its wait before
abbrev pub wait_on : ℕ → List Errand → Option ℕ → Option ℕ
wait_on cell [] w = one_more w
wait_on cell (f ∷ rest) w = if f.cell == cell then wait_anew rest else one_more w

-- whether the last errand is finished on the cell
abbrev pub is_last : ℕ → List Errand → Bool
is_last cell [] = false
is_last cell (f ∷ rest) = f.cell == cell && is_none_left rest

-- the errands without the one that is finished on the cell
abbrev pub rest_on : ℕ → List Errand → List Errand
rest_on cell [] = []
rest_on cell (f ∷ rest) = if f.cell == cell then rest else f ∷ rest

-- a queue without the errand that is finished on the cell, and with the same room
abbrev pub without_landed : ℕ → Queue → Queue
without_landed cell q = record q { items = rest_on cell q.items }
