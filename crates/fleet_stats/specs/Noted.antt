-- What is recorded of a run, entry by entry. A take and a tick are recorded by the clock, the waits and the cells before them.
use Rattle.std.specs.Prelude.{ℕ, zero, suc, ◌+◌, ◌-◌, ◌^◌, ◌==◌, ◌&&◌, Bool, true, false, not, if◌then◌else◌, List, [], ◌∷◌, ◌++◌, Option, Some, None, map, min, max, length, count_by, unwrap_or, slice_index, slice_index_or}
use Rattle.std.specs.List.{fold, list_any, range_with_len}
use Rattle.fleet_book.specs.declared.verdict.Verdict.{Verdict}
use Rattle.fleet_book.specs.declared.verdict.Verdict.TheVariants as verdict
use Rattle.fleet_history.specs.declared.history.Arrival.{Arrival}
use Rattle.fleet_history.specs.declared.history.Entry.{Entry}
use Rattle.fleet_history.specs.declared.history.Entry.TheVariants.{Take, Tick, Shut}
use Rattle.fleet_history.specs.declared.history.RobotState.{RobotState}
use Rattle.fleet_history.specs.History.{History, start, after, robots, place, clock, unfinished}
use Rattle.fleet_history.specs.Waits.{wait}
use Rattle.fleet_state.specs.State.{by_robot}
use Rattle.fleet_trace.specs.Trace.{Trace}
use Rattle.fleet_queue.specs.declared.errand.Errand.{Errand}
use Rattle.fleet_stats.specs.declared.rows.TickRow.{TickRow}
use Rattle.fleet_stats.specs.declared.rows.Left.{Left}
use Rattle.fleet_stats.specs.declared.rows.Leg.{Leg}
use Rattle.fleet_stats.specs.declared.rows.Landed.{Landed}
use Rattle.fleet_stats.specs.declared.rows.Taken.{Taken}

-- what is recorded
pub record Notes : Type 0 where
  -- the robots' ways to their front errands, by robot
  pub legs : List Leg
  -- a row for each tick, and an errand for each arrival
  pub ticks : List TickRow
  pub landed : List Landed
  -- the cell of each robot that stood, for each tick
  pub stood : List ℕ
  -- the acceptances, and the kinds of all verdicts
  pub taken : List Taken
  pub kinds : List ℕ
  -- the errands that are in the robots' queues at the end
  pub left : List Left

-- ---- a take

-- the kind of a verdict: 0 accepted, the code of a refusal, 11 closed, 12 withdrawn
abbrev pub kind_of : Verdict → ℕ
kind_of (verdict.Accepted number) = 0
kind_of verdict.Closed = 11
kind_of verdict.Withdrawn = 12
kind_of verdict.ClientClosed = 1
kind_of verdict.NoRobot = 2
kind_of verdict.RobotShut = 3
kind_of verdict.NoCell = 4
kind_of verdict.Blocked = 5
kind_of verdict.Unreachable = 6
kind_of verdict.QueueFull = 7
kind_of verdict.LifeSpent = 8
kind_of verdict.NoErrand = 9
kind_of verdict.TooLate = 10

-- the acceptance of a client's errand, where the verdict is of kind 0, with the clock of the take
abbrev pub taken_if : ℕ → ℕ → ℕ → List Taken
taken_if tick client kind = if kind == 0 then record { client = client; tick = tick } ∷ [] else []

-- ---- a tick

-- the robot's wait, in ticks; `None` where it has no errand
abbrev pub wait_at : List (Option ℕ) → ℕ → Option ℕ
wait_at waits r = slice_index_or waits r None

-- whether a robot with this wait has an errand
abbrev pub is_busy : Option ℕ → Bool
is_busy None = false
is_busy (Some w) = true

-- whether a robot with this wait has no errand
abbrev pub is_idle : Option ℕ → Bool
is_idle None = true
is_idle (Some w) = false

-- the robot's cell is another after the tick
abbrev pub moves : List ℕ → List ℕ → ℕ → Bool
moves from to r = not (slice_index from r == slice_index to r)

-- the robot has an errand, and stays on its cell
abbrev pub stands : List (Option ℕ) → List ℕ → List ℕ → ℕ → Bool
stands waits from to r = is_busy (wait_at waits r) && (slice_index from r == slice_index to r)

-- the greatest wait, 0 where no robot has an errand
abbrev pub longest : List (Option ℕ) → ℕ
longest waits = fold (λ most w. max most (unwrap_or w 0)) 0 waits

-- the figures of the tick after this clock, by the waits before it, the cells before and after it, and the arrivals
abbrev pub tick_row : ℕ → List (Option ℕ) → List ℕ → List ℕ → List Arrival → TickRow
tick_row clock waits from to arrived = record {
  tick = clock + 1;
  arrivals = length arrived;
  moves = count_by (moves from to) (range_with_len 0 (length to));
  idle = count_by is_idle waits;
  waited = longest waits;
}

-- the cell alone if the test passes, or else none
abbrev pub cell_if : Bool → ℕ → List ℕ
cell_if true cell = cell ∷ []
cell_if false cell = []

-- the cells of the robots below this number that stand
abbrev pub stood_below : List (Option ℕ) → List ℕ → List ℕ → ℕ → List ℕ
stood_below waits from to zero = []
stood_below waits from to (suc r) = stood_below waits from to r ++ cell_if (stands waits from to r) (slice_index to r)

-- ---- ways

-- the way of a robot that does not exist
abbrev pub no_leg : Leg
no_leg = record { from = 0; steps = 0 }

-- the robot's way to its front errand
abbrev pub leg_at : List Leg → ℕ → Leg
leg_at legs r = slice_index_or legs r no_leg

-- steps are counted up to 2^64 - 1, to which no run comes
abbrev pub step_more : Bool → ℕ → ℕ
step_more true steps = min (steps + 1) (2 ^ 64 - 1)
step_more false steps = steps

-- the robot's way, with the step of the tick
abbrev pub walked : List ℕ → List ℕ → List Leg → ℕ → Leg
walked from to legs r = record { from = (leg_at legs r).from; steps = step_more (moves from to r) (leg_at legs r).steps }

-- a way that begins on the cell
abbrev pub begun_on : ℕ → Leg
begun_on cell = record { from = cell; steps = 0 }

-- whether the robot is among those that arrive
abbrev pub arrives : List Arrival → ℕ → Bool
arrives arrived r = list_any (λ a. a.robot == r) arrived

-- who has an errand and does not arrive is on its way; another begins where it is
abbrev pub leg_after : List (Option ℕ) → List ℕ → List ℕ → List Arrival → List Leg → ℕ → Leg
leg_after waits from to arrived legs r =
    if is_busy (wait_at waits r) && not (arrives arrived r) then walked from to legs r else begun_on (slice_index to r)

-- the ways of all robots after a tick
abbrev pub legs_after : List (Option ℕ) → List ℕ → List ℕ → List Arrival → List Leg → List Leg
legs_after waits from to arrived legs = map (leg_after waits from to arrived legs) (range_with_len 0 (length to))

-- the errand of an arrival: it was begun when its robot's wait began
abbrev pub landed_by : ℕ → List (Option ℕ) → List ℕ → List ℕ → List Leg → Arrival → Landed
landed_by clock waits from to legs a = record {
  client = a.client;
  number = a.number;
  robot = a.robot;
  cell = slice_index to a.robot;
  begun = clock - unwrap_or (wait_at waits a.robot) 0;
  arrived = clock + 1;
  leg = walked from to legs a.robot;
}

-- ---- all entries

-- one more take at this clock, with its verdict
abbrev pub take_noted : ℕ → ℕ → Verdict → Notes → Notes
take_noted clock client v n = record n {
  taken = n.taken ++ taken_if clock client (kind_of v);
  kinds = n.kinds ++ kind_of v ∷ [];
}

-- one more tick after this clock, by the waits, the cells before and after it, and the arrivals
abbrev pub tick_noted : ℕ → List (Option ℕ) → List ℕ → List ℕ → List Arrival → Notes → Notes
tick_noted clock waits from to arrived n = record n {
  legs = legs_after waits from to arrived n.legs;
  ticks = n.ticks ++ tick_row clock waits from to arrived ∷ [];
  landed = n.landed ++ map (landed_by clock waits from to n.legs) arrived;
  stood = n.stood ++ stood_below waits from to (length to);
}

-- one more entry, by the clock, the waits and the cells before it
abbrev pub note_by : {A : Type 0} → ℕ → List (Option ℕ) → List ℕ → Entry A → Notes → Notes
note_by clock waits from (Take client order v) n = take_noted clock client v n
note_by clock waits from (Tick to arrived farewells) n = tick_noted clock waits from to arrived n
note_by clock waits from (Shut robot farewell) n = n

-- the waits of the robots, by number
abbrev pub waits : {A : Type 0} → History A → List (Option ℕ)
waits h = by_robot h (wait h)

-- one more entry after the history
abbrev pub note : {A : Type 0} → History A → Entry A → Notes → Notes
note h e n = note_by (clock h) (waits h) (place h) e n

-- the entries that follow a history
abbrev pub noted : {A : Type 0} → History A → List (Entry A) → Notes → Notes
noted h [] n = n
noted h (e ∷ es) n = noted (after h e) es (note h e n)

-- all entries of a history
abbrev pub entries_noted : {A : Type 0} → History A → Notes → Notes
entries_noted h n = noted (start h.opening) h.entries n

-- ---- what is left

-- an errand that is left in the robot's queue
abbrev pub left_by : ℕ → Errand → Left
left_by r e = record { client = e.client; number = e.number; robot = r; cell = e.cell }

-- an errand that is left in the robot's queue, where there is one
abbrev pub left_if : ℕ → Option Errand → List Left
left_if r None = []
left_if r (Some e) = left_by r e ∷ []

-- these errands of the robots below a number, by robot and place
abbrev pub left_below : (ℕ → List Errand) → ℕ → List Left
left_below queue zero = []
left_below queue (suc r) = left_below queue r ++ map (left_by r) (queue r)

-- the errands that are neither done nor withdrawn
abbrev pub left_of : {A : Type 0} → History A → List Left
left_of h = left_below (unfinished h) (robots h)

-- ---- chapters

-- a history from its opening to its end
abbrev pub history_noted : {A : Type 0} → History A → Notes → Notes
history_noted h n = record (entries_noted h n) { left = left_of h }

-- the chapters of a run, one after the other
abbrev pub chapters_noted : {A : Type 0} → List (Trace A) → Notes → Notes
chapters_noted [] n = n
chapters_noted (t ∷ ts) n = chapters_noted ts (history_noted t.history n)

-- before the first entry
abbrev pub blank : {A : Type 0} → List (RobotState A) → Notes
blank robots = record { legs = map (λ x. begun_on x.cell) robots; ticks = []; landed = []; stood = []; taken = []; kinds = []; left = [] }

-- the robots of the first opening
abbrev pub robots_in : {A : Type 0} → List (Trace A) → List (RobotState A)
robots_in [] = []
robots_in (t ∷ ts) = t.history.opening.robots

-- what is recorded of a run of chapters
abbrev pub run_noted : {A : Type 0} → List (Trace A) → Notes
run_noted ts = chapters_noted ts (blank (robots_in ts))
