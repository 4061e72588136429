-- A step whose stamps the closures give, or which are the least that the robots' laws allow.
use Rattle.std.specs.Prelude.{ℕ, ◌≡◌, ◌<◌, ◌^◌, Bool, true, false, List, Option, Some, All, is_some, None, length, map, slice_index_or}
use Rattle.fleet_hooks.specs.declared.law.StampLaw.{StampLaw}
use Rattle.fleet_hooks.specs.Law.{IsStamp, IsStampLaw}
use Rattle.fleet_history.specs.declared.history.Arrival.{Arrival}
use Rattle.fleet_history.specs.declared.history.Bye.{Bye}
use Rattle.fleet_history.specs.declared.history.RobotState.{RobotState}
use Rattle.fleet_history.specs.History.{History}
use Rattle.fleet_history.specs.Legal.{due_of}
use Rattle.fleet_core.specs.Hooks.{AreArrivals, AreFarewells, law_at, DoRise, IsLastStamp}

-- the laws of the robots' farewells, of which none was called
abbrev pub own_laws : {A : Type 0} → List (RobotState A) → List (Option StampLaw)
own_laws robots = map (λ x. Some x.farewell_law) robots

-- the laws of arrivals and of farewells that stamps follow: the robots' own where they are the least, else the closures'
abbrev pub laws_as : {A : Type 0} → Bool → List (RobotState A) → List StampLaw → List StampLaw
laws_as true robots laws = map (λ x. x.arrival_law) robots
laws_as false robots laws = laws

abbrev pub spare_as : {A : Type 0} → Bool → List (RobotState A) → List (Option StampLaw) → List (Option StampLaw)
spare_as true robots spare = own_laws robots
spare_as false robots spare = spare

-- closures with these laws are the robots'
pub record AreClosures {A : Type 0} (h : History A) (laws : List StampLaw) (spare : List (Option StampLaw)) : Type 0 where
  pub arrivals : AreArrivals h laws
  pub farewells : AreFarewells h spare

-- each law of the robots allows a stamp
pub record HaveStamps {A : Type 0} (robots : List (RobotState A)) : Type 0 where
  pub arrivals : All (λ x. IsStampLaw x.arrival_law) robots
  pub farewells : All (λ x. IsStampLaw x.farewell_law) robots

-- each robot has its closures, and those that come and go have those that are called
pub record MayStamp (hooks closures : ℕ) (spare : List (Option StampLaw)) (to : List ℕ) (come : List Arrival) (gone : List Bye) : Type 0 where
  pub hooked : length to ≡ hooks
  pub closed : length to ≡ closures
  pub arriving : All (λ a. a.robot < hooks) come
  pub leaving : All (λ b. b.robot < closures) gone
  pub rising : DoRise (map (λ b. b.robot) gone)
  pub unspent : All (λ b. is_some (slice_index_or spare b.robot None) ≡ true) gone
  pub few_arriving : length come < 2 ^ 32
  pub few_leaving : length gone < 2 ^ 32

-- the second of each are the first with stamps in these laws
pub record AreStamped (laws : List StampLaw) (spare : List (Option StampLaw)) (come stamped : List Arrival) (gone last : List Bye) : Type 0 where
  pub shows : map due_of stamped ≡ map due_of come
  pub stamps : All (λ a. IsStamp (law_at laws a.robot) a.stamp) stamped
  pub robots : map (λ b. b.robot) last ≡ map (λ b. b.robot) gone
  pub last_stamps : All (λ b. IsLastStamp spare b.robot b.stamp) last

-- each stamp is the least that its robot's law allows
abbrev pub AreLeast : {A : Type 0} → List (RobotState A) → List Arrival → List Bye → Type 0
AreLeast robots stamped last =
    All (λ a. a.stamp ≡ (law_at (map (λ x. x.arrival_law) robots) a.robot).low) stamped
    × All (λ b. b.stamp ≡ (law_at (map (λ x. x.farewell_law) robots) b.robot).low) last
