-- The state after a history.
use Rattle.std.specs.Prelude.{ℕ, ◌≡◌, ◌<◌, ◌≤◌, List, Option, map, length, slice_index}
use Rattle.std.specs.List.{range_with_len}
use Rattle.fleet_grid.specs.Floor.{Floor}
use Rattle.fleet_queue.specs.Queue.{Queue}
use Rattle.fleet_book.specs.declared.account.Account.{Account}
use Rattle.fleet_book.specs.Counts.{Counts}
use Rattle.fleet_history.specs.History.{History, place, clock, robots, clients, unfinished, owed, accepted_count, taken_count, is_closed, is_shut}
use Rattle.fleet_history.specs.Notices.{noticed_count}
use Rattle.fleet_history.specs.Waits.{wait}
use Rattle.fleet_history.specs.Legal.{IsLegal}
use Rattle.fleet_state.specs.declared.clients.Tally.{Tally}
use Rattle.fleet_state.specs.Clients.{Clients}
use Rattle.fleet_state.specs.Robots.{Robots}

-- what is known between two entries of a history whose memory is of type A
pub record State (A : Type 0) : Type 0 where
  -- by robot
  pub cells : List ℕ
  pub queues : List Queue
  pub waits : List (Option ℕ)
  -- for how many errands the robot's queue has memory
  pub rooms : List ℕ
  -- by client and by robot
  pub counts : Counts
  -- by client
  pub tallies : List Tally
  -- how many errands a robot may have, and the ticks made
  pub queue : ℕ
  pub tick : ℕ

-- what `f` gives for each robot, by number
abbrev pub by_robot : {A X : Type 0} → History A → (ℕ → X) → List X
by_robot h f = map f (range_with_len 0 (robots h))

-- what `f` gives for each client, by number
abbrev pub by_client : {A X : Type 0} → History A → (ℕ → X) → List X
by_client h f = map f (range_with_len 0 (clients h))

-- a robot's unfinished errands, in a queue with its room
abbrev pub queue_after : {A : Type 0} → List ℕ → History A → ℕ → Queue
queue_after rooms h r = record { items = unfinished h r; capacity = slice_index rooms r }

-- a client's account after a history
abbrev pub account_after : {A : Type 0} → History A → ℕ → Account
account_after h c = record { accepted = accepted_count h c; owed = owed h c; closed = is_closed h c }

-- a client's tally after a history
abbrev pub tally_after : {A : Type 0} → History A → ℕ → Tally
tally_after h c = record { taken = taken_count h c; noticed = noticed_count h c }

-- the state after a history, in queues with these rooms
abbrev pub state_after : {A : Type 0} → List ℕ → History A → State A
state_after rooms h = record {
  cells = place h;
  queues = by_robot h (queue_after rooms h);
  waits = by_robot h (wait h);
  rooms = rooms;
  counts = record { accounts = by_client h (account_after h); shut = by_robot h (is_shut h); life = h.opening.life };
  tallies = by_client h (tally_after h);
  queue = h.opening.queue;
  tick = clock h;
}

-- ---- the parts

-- the robots of a state
abbrev pub robots_of : {A : Type 0} → State A → Robots
robots_of s = record { cells = s.cells; queues = s.queues; waits = s.waits }

-- the clients of a state
abbrev pub clients_of : {A : Type 0} → State A → Clients
clients_of s = record { counts = s.counts; tallies = s.tallies }

-- the state of these robots and clients
abbrev pub state_with : {A : Type 0} → Robots → Clients → ℕ → List ℕ → ℕ → State A
state_with x y queue rooms tick = record {
  cells = x.cells;
  queues = x.queues;
  waits = x.waits;
  rooms = rooms;
  counts = y.counts;
  tallies = y.tallies;
  queue = queue;
  tick = tick;
}

-- ---- the law

-- it is the state of a legal history
pub record IsStateOf {A : Type 0} (m : Floor) (h : History A) (s : State A) : Type 0 where
  pub legal : IsLegal m h
  pub is : s ≡ state_after s.rooms h

-- it is the state of some legal history
pub record IsState {A : Type 0} (s : State A) : Type 0 where
  pub floor : Floor
  pub history : History A
  pub is : IsStateOf floor history s

-- what holds of each legal history of which it is the state
abbrev pub Of : {A : Type 0} → State A → (History A → Type 0) → Type 0
Of {A} s P = (m : Floor) (h : History A) → IsStateOf m h s → P h

-- how many robots there are
abbrev pub robot_count : {A : Type 0} → State A → ℕ
robot_count s = length s.queues

-- how many clients there are
abbrev pub client_count : {A : Type 0} → State A → ℕ
client_count s = length s.tallies

-- each robot's queue has memory for as many errands as it may have
abbrev pub HasFullRooms : {A : Type 0} → State A → Type 0
HasFullRooms s = (r : ℕ) → r < robot_count s → s.queue ≤ slice_index s.rooms r
