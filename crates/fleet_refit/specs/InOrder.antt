-- A site in order: what is known of its robots and clients agrees.
use Rattle.std.specs.Prelude.{◌≡◌, ◌<◌, ◌≤◌, ◌^◌, ℕ, List, Some, false, not, is_some, All, length, map, slice_get, slice_index_or}
use Rattle.fleet_grid.specs.Floor.{Floor, IsFloor}
use Rattle.fleet_hooks.specs.Law.{IsStampLaw}
use Rattle.fleet_queue.specs.declared.errand.Errand.{Errand}
use Rattle.fleet_history.specs.declared.history.ClientState.{ClientState}
use Rattle.fleet_history.specs.declared.history.Opening.{Opening}
use Rattle.fleet_history.specs.declared.history.RobotState.{RobotState}
use Rattle.fleet_history.specs.History.{errands_at, unknown_client}
use Rattle.fleet_history.specs.Legal.{AreNamesInOrder, IsClientInOrder, is_none_left, owed_at}
use Rattle.fleet_refit.specs.declared.seat.Seat.{Seat}
use Rattle.fleet_refit.specs.Site.{SiteView, is_gone}

-- the site as an opening of all robots, also of those that are held or were taken away
abbrev pub everyone : {A : Type 0} → SiteView A → Opening A
everyone s = record { tick = s.tick; queue = s.queue; life = s.life; clients = s.clients; robots = map (λ x. x.robot) s.seats }

-- the errands of the robot of that number; none if there is no such robot
abbrev pub errands_of : {A : Type 0} → SiteView A → ℕ → List Errand
errands_of s robot = errands_at (everyone s) robot

-- how many errands of a client are open
abbrev pub open_of : {A : Type 0} → SiteView A → ℕ → ℕ
open_of s client = owed_at (everyone s) client

-- what is known of a robot is in order, wherever its errands lead
pub record IsKnown {A : Type 0} (tick queue : ℕ) (clients : List ClientState) (x : RobotState A) : Type 0 where
  pub arrival_law : IsStampLaw x.arrival_law
  pub farewell_law : IsStampLaw x.farewell_law
  -- a wait is there exactly where errands are
  pub waits : is_some x.wait ≡ not (is_none_left x.errands)
  pub not_longer : (w : ℕ) → x.wait ≡ Some w → w ≤ tick
  pub room : length x.errands ≤ queue
  pub known : All (λ e. e.client < length clients) x.errands
  pub numbered : All (λ e. (1 ≤ e.number) × (e.number ≤ (slice_index_or clients e.client unknown_client).accepted)) x.errands

-- the robots that were not taken away stand on floor, each on a cell of its own
pub record AreStanding {A : Type 0} (m : Floor) (seats : List (Seat A)) : Type 0 where
  pub on_floor : (r : ℕ) (x : Seat A) → slice_get seats r ≡ Some x → is_gone x.standing ≡ false → IsFloor m x.robot.cell
  pub apart : (r q : ℕ) (x y : Seat A) → slice_get seats r ≡ Some x → slice_get seats q ≡ Some y → is_gone x.standing ≡ false → is_gone y.standing ≡ false →
      x.robot.cell ≡ y.robot.cell → r ≡ q

-- a site is in order
pub record IsSiteInOrder {A : Type 0} (s : SiteView A) : Type 0 where
  pub few_robots : length s.seats ≤ 512
  pub some_clients : 1 ≤ length s.clients
  pub few_clients : length s.clients ≤ 64
  pub queue : (1 ≤ s.queue) × (s.queue ≤ 65536)
  pub life : (1 ≤ s.life) × (s.life ≤ 2 ^ 40)
  pub standing : AreStanding s.map s.seats
  pub robots : (r : ℕ) (x : Seat A) → slice_get s.seats r ≡ Some x → IsKnown s.tick s.queue s.clients x.robot
  pub clients : (c : ℕ) → c < length s.clients → IsClientInOrder s.life (open_of s c) (slice_index_or s.clients c unknown_client)
  -- the errands of two robots are of different names, and on one robot a client's numbers rise
  pub names : AreNamesInOrder (everyone s)
