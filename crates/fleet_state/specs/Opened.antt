-- What an opening says of each robot and client, as the state has it.
use Rattle.std.specs.Prelude.{ℕ, ◌≡◌, ◌<◌, ◌≤◌, List, [], ◌==◌, length, map, count_by, sum_by, slice_index, slice_index_or}
use Rattle.std.specs.List.{range_with_len}
use Rattle.fleet_queue.specs.declared.errand.Errand.{Errand}
use Rattle.fleet_queue.specs.Queue.{Queue}
use Rattle.fleet_book.specs.declared.account.Account.{Account}
use Rattle.fleet_history.specs.declared.history.ClientState.{ClientState}
use Rattle.fleet_history.specs.declared.history.Opening.{Opening}
use Rattle.fleet_history.specs.declared.history.RobotState.{RobotState}
use Rattle.fleet_history.specs.History.{unknown_client}
use Rattle.fleet_state.specs.declared.clients.Tally.{Tally}
use Rattle.fleet_state.specs.Clients.{Clients}
use Rattle.fleet_state.specs.Robots.{Robots}

-- the errands of a robot
abbrev pub errands_in : {A : Type 0} → List (RobotState A) → ℕ → List Errand
errands_in robots r = slice_index_or (map (λ x. x.errands) robots) r []

-- the errands of a robot, in a queue with its room
abbrev pub queue_in : {A : Type 0} → List ℕ → List (RobotState A) → ℕ → Queue
queue_in rooms robots r = record { items = errands_in robots r; capacity = slice_index rooms r }

-- each robot's errands find room
pub record HaveRooms {A : Type 0} (rooms : List ℕ) (robots : List (RobotState A)) : Type 0 where
  pub count : length rooms ≡ length robots
  pub each : (r : ℕ) → r < length robots → length (errands_in robots r) ≤ slice_index rooms r

-- the tally of a client, by what the opening knows of it
abbrev pub tally_in : ClientState → Tally
tally_in x = record { taken = x.taken; noticed = x.noticed }

-- how many of the robots' errands are the client's
abbrev pub owed_in : {A : Type 0} → List (RobotState A) → ℕ → ℕ
owed_in robots c = sum_by (λ x. count_by (λ e. e.client == c) x.errands) robots

-- the client's account: of the robots' errands, it is owed its own
abbrev pub account_in : {A : Type 0} → List ClientState → List (RobotState A) → ℕ → Account
account_in clients robots c = record {
  accepted = (slice_index_or clients c unknown_client).accepted;
  owed = owed_in robots c;
  closed = (slice_index_or clients c unknown_client).closed;
}

-- the robots at an opening, in queues with these rooms
abbrev pub robots_in : {A : Type 0} → List ℕ → List (RobotState A) → Robots
robots_in rooms robots = record {
  cells = map (λ x. x.cell) robots;
  queues = map (queue_in rooms robots) (range_with_len 0 (length robots));
  waits = map (λ x. x.wait) robots;
}

-- the clients at an opening
abbrev pub clients_in : {A : Type 0} → Opening A → Clients
clients_in o = record {
  counts = record { accounts = map (account_in o.clients o.robots) (range_with_len 0 (length o.clients)); shut = map (λ x. x.shut) o.robots; life = o.life };
  tallies = map tally_in o.clients;
}
