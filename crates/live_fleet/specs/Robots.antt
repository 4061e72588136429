-- How all robots of a fleet stand.
use Rattle.std.specs.Prelude.{◌≡◌, ℕ, ◌==◌, Bool, List, [], ◌∷◌, Option, Some, None, count_by, if◌then◌else◌, is_some, map, slice_index, unwrap_or}
use Rattle.std.specs.List.{flat_map, range_with_len}
use Rattle.std.specs.declared.alloc.Global.{Global}
use Rattle.fleet_core.specs.Core.{World}
use Rattle.fleet_core.specs.OpenErrands.{open_errands}
use Rattle.fleet_core.specs.declared.open_errands.OpenErrand.{OpenErrand}
use Rattle.fleet_history.specs.History.{History, clients, front, is_shut, place, robots}
use Rattle.fleet_history.specs.Waits.{wait}
use Rattle.fleet_history.specs.declared.history.Entry.{Entry}
use Rattle.fleet_history.specs.declared.history.Entry.TheVariants as entry
use Rattle.fleet_queue.specs.declared.errand.Errand.{Errand}
use Rattle.live_fleet.specs.declared.rest.Rest.{Rest}
use Rattle.live_fleet.specs.declared.rest.Rest.TheVariants as rest
use Rattle.live_fleet.specs.declared.rest.Rows.{Rows}
use Rattle.live_fleet.specs.declared.rest.Rows.TheVariants as rows
use Rattle.live_fleet.specs.declared.robots.Duty.{Duty}
use Rattle.live_fleet.specs.declared.robots.Duty.TheVariants.{Free, Busy, Shut}
use Rattle.live_fleet.specs.declared.robots.RobotRow.{RobotRow}
use Rattle.live_fleet.specs.declared.speaker.Speaker.{Speaker}
use Rattle.live_fleet.specs.Act.{Act}
use Rattle.live_fleet.specs.Answering.{mark_kept}
use Rattle.live_fleet.specs.Party.{Stage, with_rest}

-- the robot that an entry shuts
abbrev pub shut_in : {A : Type 0} → Entry A → List ℕ
shut_in (entry.Shut robot farewell) = robot ∷ []
shut_in (entry.Take client order verdict) = []
shut_in (entry.Tick to arrived farewells) = []

-- the open errands of all clients, one after another
abbrev pub all_open : {A : Type 0} → History A → List OpenErrand
all_open h = flat_map (open_errands h) (range_with_len 0 (clients h))

-- how many of these errands are a robot's
abbrev pub errands_of : List OpenErrand → ℕ → ℕ
errands_of all r = count_by (λ e. e.robot == r) all

-- the cell of a robot's first errand; without one its own cell
abbrev pub goal_of : ℕ → Option Errand → ℕ
goal_of cell (Some e) = e.cell
goal_of cell None = cell

-- shut, or else busy if it has an errand
abbrev pub duty_of : (is_shut is_busy : Bool) → Duty
duty_of is_shut is_busy = if is_shut then Shut else if is_busy then Busy else Free

-- how a robot stands: its cell, the cell of its first errand, how many errands it has, and how long it has waited
abbrev pub row_of : {A : Type 0} → World A → ℕ → RobotRow
row_of w r = record {
  robot = r;
  cell = slice_index (place w.history) r;
  goal = goal_of (slice_index (place w.history) r) (front w.history r);
  errands = errands_of (all_open w.history) r;
  wait = unwrap_or (wait w.history r) 0;
  duty = duty_of (is_shut w.history r) (is_some (wait w.history r));
}

-- how each robot stands, by number
abbrev pub rows_of : {A : Type 0} → World A → List RobotRow
rows_of w = map (row_of w) (range_with_len 0 (robots w.history))

-- the rows are those of all robots
abbrev pub AreRobots : World Global → Rows → Type 0
AreRobots w (rows.Robots robots) = robots.items ≡ rows_of w
AreRobots w _ = ⊥

-- all of them are to be told, from the first on
abbrev pub IsRoll : Option (List ℕ) → World Global → Rest → Type 0
IsRoll shown w (rest.Listing list) = (mark_kept list.mark ≡ shown) × AreRobots w list.rows × (list.listed ≡ 0)
IsRoll shown w _ = ⊥

-- all robots are to be listed
abbrev pub HearsRobots : ℕ → Speaker → Option (List ℕ) → Stage → List Act → Stage → Type 0
HearsRobots k sp mark s acts t = (left : Rest) × IsRoll mark s.at.fleet.talk.world left × (acts ≡ []) × (t ≡ with_rest s k sp left)
