-- What a change makes of a site.
use Rattle.std.specs.Prelude.{◌≡◌, ℕ, List, [], ◌∷◌, ◌++◌, Option, None, Some, false, map, length, slice_get, slice_set}
use Rattle.std.specs.List.{position}
use Rattle.fleet_hooks.specs.declared.law.StampLaw.{StampLaw}
use Rattle.fleet_queue.specs.declared.errand.Errand.{Errand}
use Rattle.fleet_queue.specs.Queue.{is_of}
use Rattle.fleet_history.specs.declared.history.RobotState.{RobotState}
use Rattle.fleet_refit.specs.declared.change.Change.{Change}
use Rattle.fleet_refit.specs.declared.change.Change.TheVariants as change
use Rattle.fleet_refit.specs.declared.change.Dropped.{Dropped}
use Rattle.fleet_refit.specs.declared.seat.Seat.{Seat}
use Rattle.fleet_refit.specs.declared.seat.Standing.{Standing}
use Rattle.fleet_refit.specs.declared.seat.Standing.TheVariants as standing
use Rattle.fleet_refit.specs.Fault.{fault_of, has}
use Rattle.fleet_refit.specs.Map.{with_letter}
use Rattle.fleet_refit.specs.Sifting.{Sifts, cut_wait, dropped_of}
use Rattle.fleet_refit.specs.Site.{SiteView, moving, seat_of, with_map, with_seats}

-- ---- robots

-- a robot that has just come
abbrev pub newcomer : {A : Type 0} → ℕ → StampLaw → StampLaw → RobotState A
newcomer cell arrivals farewells = record { cell = cell; shut = false; wait = None; errands = []; arrival_law = arrivals; farewell_law = farewells }

-- the robot without errands
abbrev pub emptied : {A : Type 0} → RobotState A → RobotState A
emptied x = record { cell = x.cell; shut = x.shut; wait = None; errands = []; arrival_law = x.arrival_law; farewell_law = x.farewell_law }

-- the robot on another cell
abbrev pub on_cell : {A : Type 0} → ℕ → RobotState A → RobotState A
on_cell cell x = record { cell = cell; shut = x.shut; wait = x.wait; errands = x.errands; arrival_law = x.arrival_law; farewell_law = x.farewell_law }

-- the robot with other errands; it waits anew where its front is another
abbrev pub with_errands : {A : Type 0} → List Errand → RobotState A → RobotState A
with_errands errands x = record { cell = x.cell; shut = x.shut; wait = cut_wait x.errands errands x.wait; errands = errands; arrival_law = x.arrival_law; farewell_law = x.farewell_law }

-- only the errands stay of which that is said; the others are dropped as those of the robot of that number
pub record Cuts {A : Type 0} (Stays : Errand → Type 0) (robot : ℕ) (x y : RobotState A) (dropped : List Dropped) : Type 0 where
  pub gone : List Errand
  pub sifted : Sifts Stays x.errands y.errands gone
  pub rest : y ≡ with_errands y.errands x
  pub named : dropped ≡ map (dropped_of robot) gone

-- ---- a site

-- the robot of that number becomes another
pub record Replaces {A : Type 0} (Becomes : Seat A → Seat A → Type 0) (s : SiteView A) (robot : ℕ) (t : SiteView A) : Type 0 where
  pub old : Seat A
  pub new : Seat A
  pub was : slice_get s.seats robot ≡ Some old
  pub becomes : Becomes old new
  pub is : t ≡ with_seats s (slice_set s.seats robot new)

-- the robot takes part in another way
abbrev pub Stands : {A : Type 0} → Standing → Seat A → Seat A → Type 0
Stands standing x y = y ≡ seat_of standing x.robot

-- the robot is taken away, and its errands are dropped
abbrev pub Leaves : {A : Type 0} → ℕ → List Dropped → Seat A → Seat A → Type 0
Leaves robot dropped x y = (y ≡ seat_of standing.Gone (emptied x.robot)) × (dropped ≡ map (dropped_of robot) x.robot.errands)

-- the robot was carried to the cell
abbrev pub ComesTo : {A : Type 0} → ℕ → Seat A → Seat A → Type 0
ComesTo cell x y = y ≡ seat_of x.standing (on_cell cell x.robot)

-- an errand other than that one
abbrev pub IsOther : ℕ → ℕ → Errand → Type 0
IsOther client number e = is_of client number e ≡ false

-- only such errands stay
abbrev pub IsCut : {A : Type 0} → (Errand → Type 0) → ℕ → List Dropped → Seat A → Seat A → Type 0
IsCut Stays robot dropped x y = (y.standing ≡ x.standing) × Cuts Stays robot x.robot y.robot dropped

-- the first robot that has the errand has it no more
pub record Cancels {A : Type 0} (s : SiteView A) (client number : ℕ) (t : SiteView A) (dropped : List Dropped) : Type 0 where
  pub robot : ℕ
  pub first : position (has client number) s.seats ≡ Some robot
  pub cut : Replaces (IsCut (IsOther client number) robot dropped) s robot t

-- what a change that can be made makes of a site, and which errands are dropped
abbrev pub Changes : {A : Type 0} → SiteView A → Change → SiteView A → List Dropped → Type 0
Changes s (change.Block cell) t dropped = (t ≡ with_map s (with_letter s.map cell 64)) × (dropped ≡ [])
Changes s (change.Open cell) t dropped = (t ≡ with_map s (with_letter s.map cell 46)) × (dropped ≡ [])
Changes s (change.Join cell arrivals farewells) t dropped = (t ≡ with_seats s (s.seats ++ moving (newcomer cell arrivals farewells) ∷ [])) × (dropped ≡ [])
Changes s (change.Leave robot) t dropped = Replaces (Leaves robot dropped) s robot t
Changes s (change.Hold robot) t dropped = Replaces (Stands standing.Held) s robot t × (dropped ≡ [])
Changes s (change.Free robot) t dropped = Replaces (Stands standing.Moving) s robot t × (dropped ≡ [])
Changes s (change.Move robot cell) t dropped = Replaces (ComesTo cell) s robot t × (dropped ≡ [])
Changes s (change.Cancel client number) t dropped = Cancels s client number t dropped

-- each change was made of what the one before left, in order
pub data AreMade {A : Type 0} : SiteView A → List Change → SiteView A → List Dropped → Type 0 where
  none : {s : SiteView A} → AreMade s [] s []
  made : {s t u : SiteView A} {cs : List Change} {before : List Dropped} (c : Change) (dropped : List Dropped) → AreMade s cs t before → fault_of t c ≡ None → Changes t c u dropped →
      AreMade s (cs ++ c ∷ []) u (before ++ dropped)
