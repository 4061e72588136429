-- What the fleet of a site goes on with.
use Rattle.std.specs.Prelude.{ℕ, ◌+◌, List, [], ◌∷◌, if◌then◌else◌, map, filter}
use Rattle.fleet_history.specs.declared.history.Opening.{Opening}
use Rattle.fleet_history.specs.declared.history.RobotState.{RobotState}
use Rattle.fleet_refit.specs.declared.seat.Seat.{Seat}
use Rattle.fleet_refit.specs.Site.{SiteView, is_moving}

-- the robots that move, in the order of their numbers
abbrev pub moving_robots : {A : Type 0} → List (Seat A) → List (RobotState A)
moving_robots seats = map (λ x. x.robot) (filter (λ x. is_moving x.standing) seats)

-- the numbers of those that move, where the first has that number
abbrev pub numbers_from : {A : Type 0} → ℕ → List (Seat A) → List ℕ
numbers_from first [] = []
numbers_from first (x ∷ xs) = if is_moving x.standing then first ∷ numbers_from (first + 1) xs else numbers_from (first + 1) xs

-- the numbers of the robots that move, in order
abbrev pub moving_numbers : {A : Type 0} → List (Seat A) → List ℕ
moving_numbers seats = numbers_from 0 seats

-- the next chapter's opening
abbrev pub opening_of : {A : Type 0} → SiteView A → Opening A
opening_of s = record { tick = s.tick; queue = s.queue; life = s.life; clients = s.clients; robots = moving_robots s.seats }
