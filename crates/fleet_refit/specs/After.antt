-- A site at the end of a chapter that its fleet played.
use Rattle.std.specs.Prelude.{◌≡◌, ◌≢◌, ℕ, List, [], ◌∷◌, Some, false, if◌then◌else◌, count_by, length, slice_get}
use Rattle.fleet_history.specs.declared.history.Opening.{Opening}
use Rattle.fleet_history.specs.declared.history.RobotState.{RobotState}
use Rattle.fleet_history.specs.History.{History}
use Rattle.fleet_history.specs.Legal.{IsInOrder, IsLegal}
use Rattle.fleet_history.specs.Next.{next_opening}
use Rattle.fleet_refit.specs.declared.after.AfterFault.{AfterFault}
use Rattle.fleet_refit.specs.declared.after.AfterFault.TheVariants as fault
use Rattle.fleet_refit.specs.declared.seat.Seat.{Seat}
use Rattle.fleet_refit.specs.InOrder.{IsSiteInOrder}
use Rattle.fleet_refit.specs.Map.{plan_map}
use Rattle.fleet_refit.specs.Opening.{moving_numbers, opening_of}
use Rattle.fleet_refit.specs.Site.{SiteView, is_moving, moving}

-- how many robots move
abbrev pub moving_count : {A : Type 0} → List (Seat A) → ℕ
moving_count seats = count_by (λ x. is_moving x.standing) seats

-- robots that move become these, one after another; those that are held or were taken away stay as they were
abbrev pub seats_after : {A : Type 0} → List (Seat A) → List (RobotState A) → List (Seat A)
seats_after [] robots = []
seats_after (x ∷ xs) [] = x ∷ xs
seats_after (x ∷ xs) (z ∷ zs) = if is_moving x.standing then moving z ∷ seats_after xs zs else x ∷ seats_after xs (z ∷ zs)

-- the site with the robots that move, the clients, the clock and the limits of an opening
abbrev pub after_site : {A : Type 0} → SiteView A → Opening A → SiteView A
after_site s o = record { map = s.map; tick = o.tick; queue = o.queue; life = o.life; clients = o.clients; seats = seats_after s.seats o.robots }

-- a robot of the opening is the robot of its number
abbrev pub AreTheMoving : {A : Type 0} → SiteView A → Opening A → SiteView A → Type 0
AreTheMoving {A} s o t = (k number : ℕ) (z : RobotState A) → slice_get (moving_numbers s.seats) k ≡ Some number → slice_get o.robots k ≡ Some z → slice_get t.seats number ≡ Some (moving z)

-- a robot that is held or was taken away is as it was
abbrev pub DoOthersStay : {A : Type 0} → SiteView A → SiteView A → Type 0
DoOthersStay {A} s t = (number : ℕ) (x : Seat A) → slice_get s.seats number ≡ Some x → is_moving x.standing ≡ false → slice_get t.seats number ≡ Some x

-- the opening is the state at the end of a legal chapter, played on the site's map from the site's opening
pub record IsPlayed {A : Type 0} (s : SiteView A) (o : Opening A) : Type 0 where
  pub history : History A
  pub legal : IsLegal (plan_map s) history
  pub begins : history.opening ≡ opening_of s
  pub ends : o ≡ next_opening history

-- all that is said of the site after it
pub record IsAfter {A : Type 0} (s : SiteView A) (o : Opening A) (t : SiteView A) : Type 0 where
  pub site : t ≡ after_site s o
  pub opening : opening_of t ≡ o
  pub numbers : moving_numbers t.seats ≡ moving_numbers s.seats
  pub the_moving : AreTheMoving s o t
  pub others : DoOthersStay s t
  pub map : plan_map t ≡ plan_map s
  pub in_order : IsSiteInOrder s → IsPlayed s o → IsInOrder (plan_map s) o → IsSiteInOrder t

-- why a site cannot go on from an opening, out of memory apart: it has not as many robots as move
abbrev pub IsUnlike : {A : Type 0} → SiteView A → Opening A → AfterFault → Type 0
IsUnlike s o fault.Robots = moving_count s.seats ≢ length o.robots
IsUnlike s o fault.NoMemory = Unit {0}
