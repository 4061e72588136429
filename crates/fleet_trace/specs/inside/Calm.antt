-- An opening without a past: the clock stands at 0, and nobody has waited.
use Rattle.std.specs.Prelude.{ℕ, List, [], ◌∷◌, Option, Some, None, map}
use Rattle.fleet_queue.specs.declared.errand.Errand.{Errand}
use Rattle.fleet_history.specs.declared.history.RobotState.{RobotState}
use Rattle.fleet_history.specs.declared.history.Opening.{Opening}

-- the wait of a robot with these errands that has just begun to wait
abbrev pub first_wait : List Errand → Option ℕ
first_wait [] = None
first_wait (x ∷ xs) = Some 0

abbrev pub calm_robot : {A : Type 0} → RobotState A → RobotState A
calm_robot x = record {
  cell = x.cell;
  shut = x.shut;
  wait = first_wait x.errands;
  errands = x.errands;
  arrival_law = x.arrival_law;
  farewell_law = x.farewell_law;
}

abbrev pub calm : {A : Type 0} → Opening A → Opening A
calm o = record {
  tick = 0;
  queue = o.queue;
  life = o.life;
  clients = o.clients;
  robots = map calm_robot o.robots;
}
