-- Whose arrivals and farewells a tick brings, by the queues.
use Rattle.std.specs.Prelude.{ℕ, count_by, slice_get, slice_index, Bool, ◌&&◌, List, ◌==◌}
use Rattle.std.specs.List.{flat_map, range_with_len}
use Rattle.fleet_queue.specs.Queue.{Queue}
use Rattle.fleet_book.specs.Counts.{Counts, is_shut}
use Rattle.fleet_history.specs.Legal.{Due, due_at, robot_if}
use Rattle.fleet_state.specs.Landed.{is_last}
use Rattle.fleet_state.specs.Robots.{queue_at}

-- the arrivals of the first n robots that land, by number
abbrev pub dues : List Queue → List ℕ → ℕ → List Due
dues queues to n = flat_map (λ r. due_at to r (slice_get (queue_at queues r).items 0)) (range_with_len 0 n)

-- how many of them are of the client
abbrev pub dues_of : List Queue → List ℕ → ℕ → ℕ → ℕ
dues_of queues to n c = count_by (λ (d : Due). d.client == c) (dues queues to n)

-- whether the robot is shut, and finishes its last errand
abbrev pub is_leaver : Counts → List Queue → List ℕ → ℕ → Bool
is_leaver counts queues to r = is_shut counts r && is_last (slice_index to r) (queue_at queues r).items

-- the first n robots of which that is so, by number
abbrev pub leavers : Counts → List Queue → List ℕ → ℕ → List ℕ
leavers counts queues to n = flat_map (λ r. robot_if (is_leaver counts queues to r) r) (range_with_len 0 n)
