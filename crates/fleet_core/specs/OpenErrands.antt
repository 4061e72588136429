-- The errands that are accepted, and neither done nor withdrawn, as the robots' queues hold them.
use Rattle.std.specs.Prelude.{ℕ, ◌+◌, ◌==◌, List, [], ◌∷◌, ◌++◌, length, if◌then◌else◌}
use Rattle.std.specs.List.{sum_by}
use Rattle.fleet_queue.specs.declared.errand.Errand.{Errand}
use Rattle.fleet_history.specs.History.{History, unfinished}
use Rattle.fleet_state.specs.State.{by_robot}
use Rattle.fleet_core.specs.declared.open_errands.OpenErrand.{OpenErrand}

-- the errand at a place of a robot's queue, if it is the client's
abbrev pub open_if : (client robot place : ℕ) → Errand → List OpenErrand
open_if client robot place e =
    if e.client == client then record { number = e.number; robot = robot; cell = e.cell; place = place } ∷ [] else []

-- the client's errands in a robot's queue, from this place on
abbrev pub open_in : (client robot place : ℕ) → List Errand → List OpenErrand
open_in client robot place [] = []
open_in client robot place (e ∷ es) = open_if client robot place e ++ open_in client robot (place + 1) es

-- the client's errands in the queues of the robots from this number on
abbrev pub open_from : (client robot : ℕ) → List (List Errand) → List OpenErrand
open_from client robot [] = []
open_from client robot (queue ∷ queues) = open_in client robot 1 queue ++ open_from client (robot + 1) queues

-- the client's errands after a history: robot by robot, each queue from its front on, which has place 1
abbrev pub open_errands : {A : Type 0} → History A → ℕ → List OpenErrand
open_errands h client = open_from client 0 (by_robot h (unfinished h))

-- how many errands all queues have together after a history
abbrev pub queued : {A : Type 0} → History A → ℕ
queued h = sum_by length (by_robot h (unfinished h))
