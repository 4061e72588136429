-- A site, taken apart: an opening of all its robots, and how each of them takes part.
use Rattle.std.specs.Prelude.{◌≡◌, List, [], ◌∷◌, map}
use Rattle.fleet_grid.specs.Floor.{Floor}
use Rattle.fleet_history.specs.declared.history.Opening.{Opening}
use Rattle.fleet_history.specs.declared.history.RobotState.{RobotState}
use Rattle.fleet_refit.specs.declared.seat.Seat.{Seat}
use Rattle.fleet_refit.specs.declared.seat.Standing.{Standing}
use Rattle.fleet_refit.specs.InOrder.{everyone}
use Rattle.fleet_refit.specs.Site.{SiteView, seat_of}

-- how each robot takes part
abbrev pub standings_of : {A : Type 0} → List (Seat A) → List Standing
standings_of seats = map (λ x. x.standing) seats

-- robots that take part in these ways, as many as there are of both
abbrev pub seats_of : {A : Type 0} → List Standing → List (RobotState A) → List (Seat A)
seats_of [] robots = []
seats_of (x ∷ xs) [] = []
seats_of (x ∷ xs) (z ∷ zs) = seat_of x z ∷ seats_of xs zs

-- the site on that map in which the robots of an opening take part in these ways
abbrev pub site_of : {A : Type 0} → Floor → Opening A → List Standing → SiteView A
site_of m o standings = record { map = m; tick = o.tick; queue = o.queue; life = o.life; clients = o.clients; seats = seats_of standings o.robots }

-- a site that was taken apart into these
pub record IsTakenApart {A : Type 0} (s : SiteView A) (m : Floor) (o : Opening A) (ways : List Standing) : Type 0 where
  pub map : s.map ≡ m
  pub opening : everyone s ≡ o
  pub standings : standings_of s.seats ≡ ways
