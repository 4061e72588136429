-- How soon a fleet that gets no more orders is idle.
use Rattle.std.specs.Prelude.{ℕ, ◌*◌, ◌-◌, max, fold, map, length, List, Bool, Option, Some, None, if◌then◌else◌}
use Rattle.std.specs.List.{range_with_len}
use Rattle.fleet_queue.specs.declared.errand.Errand.{Errand}
use Rattle.fleet_history.specs.History.{History, robots, unfinished}

-- the length of the longest of these queues, 0 where there is none
abbrev pub longest_queue : List (List Errand) → ℕ
longest_queue queues = fold max 0 (map length queues)

-- the length of the longest of the robots' queues after a history
abbrev pub longest_after : {A : Type 0} → History A → ℕ
longest_after h = longest_queue (map (unfinished h) (range_with_len 0 (robots h)))

-- ticks for each errand of the longest queue and each robot: as many as a walk can have edges, and at least one
abbrev pub idle_ticks : (longest robots floor_count : ℕ) → ℕ
idle_ticks longest robots floor_count = longest * robots * max 1 (floor_count - 1)

-- the ticks within which a fleet is idle on a bridgeless map, `None` on others
abbrev pub idle_within : Bool → (longest robots floor_count : ℕ) → Option ℕ
idle_within bridgeless longest robots floor_count =
    if bridgeless then Some (idle_ticks longest robots floor_count) else None

-- a number of ticks that no wait reaches: those for one errand of each robot
abbrev pub wait_limit : (robots floor_count : ℕ) → ℕ
wait_limit robots floor_count = robots * max 1 (floor_count - 1)
