-- How far robots are planned and have come, and the arrivals that wait for them.
use Rattle.std.specs.Prelude.{ℕ, ◌==◌, Bool, not, List, nat_le, slice_index_or, if◌then◌else◌}
use Rattle.live_vehicles.specs.declared.place.Place.{Place}
use Rattle.live_vehicles.specs.declared.stand.Arrived.{Arrived}
use Rattle.live_vehicles.specs.declared.stand.Stand.{Stand}

abbrev pub nowhere : Place
nowhere = record { cell = 0; moved = 0; begun = 0; reached = 0 }

-- by robot
abbrev pub place_of : List Place → ℕ → Place
place_of places robot = slice_index_or places robot nowhere

-- after a step in which the robot comes to a cell, or stays there
abbrev pub stepped : ℕ → ℕ → Place → Place
stepped step to place = if to == place.cell then place else record place { cell = to; moved = step }

-- where the robot of an arrival in the last planned step is to stand
abbrev pub stand_of : List Place → ℕ → Arrived → Stand
stand_of places step a = record {
  client = a.client;
  number = a.number;
  seq = a.seq;
  robot = a.robot;
  cell = (place_of places a.robot).cell;
  step = step;
  last = (place_of places a.robot).moved;
}

-- the robot has reached the cell of its last move up to the arrival
abbrev pub is_there : List Place → Stand → Bool
is_there places s = nat_le s.last (place_of places s.robot).reached

abbrev pub is_late : List Place → Stand → Bool
is_late places s = not (is_there places s)
