-- A site between two chapters of its fleet.
use Rattle.std.specs.Prelude.{◌≡◌, ℕ, List, map, filter, Bool, true, false, ◌&&◌, ◌==◌}
use Rattle.fleet_grid.specs.Floor.{Floor}
use Rattle.fleet_history.specs.declared.history.ClientState.{ClientState}
use Rattle.fleet_history.specs.declared.history.Opening.{Opening}
use Rattle.fleet_history.specs.declared.history.RobotState.{RobotState}
use Rattle.fleet_refit.specs.declared.seat.Seat.{Seat}
use Rattle.fleet_refit.specs.declared.seat.Standing.{Standing}
use Rattle.fleet_refit.specs.declared.seat.Standing.TheVariants.{Moving, Held, Gone}

-- the map without regard to robots, the clock, the limits, the clients, and the robot of each number
pub record SiteView (A : Type 0) : Type 0 where
  pub map : Floor
  pub tick : ℕ
  -- how many errands a robot may have, and how many a client may have accepted
  pub queue : ℕ
  pub life : ℕ
  pub clients : List ClientState
  pub seats : List (Seat A)

-- the site with another map
abbrev pub with_map : {A : Type 0} → SiteView A → Floor → SiteView A
with_map s m = record { map = m; tick = s.tick; queue = s.queue; life = s.life; clients = s.clients; seats = s.seats }

-- the site with other robots
abbrev pub with_seats : {A : Type 0} → SiteView A → List (Seat A) → SiteView A
with_seats s seats = record { map = s.map; tick = s.tick; queue = s.queue; life = s.life; clients = s.clients; seats = seats }

-- ---- robots

-- a robot that takes part in this way
abbrev pub seat_of : {A : Type 0} → Standing → RobotState A → Seat A
seat_of standing robot = record { standing = standing; robot = robot }

-- whether the robot moves
abbrev pub is_moving : Standing → Bool
is_moving Moving = true
is_moving Held = false
is_moving Gone = false

-- whether the robot is held
abbrev pub is_held : Standing → Bool
is_held Moving = false
is_held Held = true
is_held Gone = false

-- whether the robot was taken away
abbrev pub is_gone : Standing → Bool
is_gone Moving = false
is_gone Held = false
is_gone Gone = true

-- ---- a site at its first opening

-- a robot that moves
abbrev pub moving : {A : Type 0} → RobotState A → Seat A
moving robot = seat_of Moving robot

-- all robots move
abbrev pub first_site : {A : Type 0} → Floor → Opening A → SiteView A
first_site m o = record { map = m; tick = o.tick; queue = o.queue; life = o.life; clients = o.clients; seats = map moving o.robots }
