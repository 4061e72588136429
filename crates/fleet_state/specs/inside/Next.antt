-- The opening of the next chapter, read off a state.
use Rattle.std.specs.Prelude.{ℕ, None, map, length, slice_index, slice_index_or}
use Rattle.std.specs.List.{range_with_len}
use Rattle.fleet_book.specs.Counts.{is_shut}
use Rattle.fleet_history.specs.declared.history.Opening.{Opening}
use Rattle.fleet_history.specs.declared.history.RobotState.{RobotState}
use Rattle.fleet_history.specs.History.{start}
use Rattle.fleet_history.specs.Legal.{arrival_law, farewell_law}
use Rattle.fleet_state.specs.Clients.{client_known}
use Rattle.fleet_state.specs.Robots.{queue_at}
use Rattle.fleet_state.specs.State.{State, clients_of}

-- what is known of a robot, whose laws are those of the opening
abbrev pub robot_known : {A : Type 0} → State A → Opening A → ℕ → RobotState A
robot_known s o r = record {
  cell = slice_index s.cells r;
  shut = is_shut s.counts r;
  wait = slice_index_or s.waits r None;
  errands = (queue_at s.queues r).items;
  arrival_law = arrival_law (start o) r;
  farewell_law = farewell_law (start o) r;
}

-- the opening that shows the state of a chapter with this opening
abbrev pub opening_in : {A : Type 0} → State A → Opening A → Opening A
opening_in s o = record {
  tick = s.tick;
  queue = o.queue;
  life = o.life;
  clients = map (client_known (clients_of s)) (range_with_len 0 (length s.tallies));
  robots = map (robot_known s o) (range_with_len 0 (length s.queues));
}
