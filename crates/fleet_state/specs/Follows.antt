-- What an entry makes of a state.
use Rattle.std.specs.Prelude.{ℕ, ◌^◌, ◌<◌, List, Option, length}
use Rattle.fleet_grid.specs.Floor.{Floor}
use Rattle.fleet_queue.specs.Queue.{Queue}
use Rattle.fleet_history.specs.declared.history.Arrival.{Arrival}
use Rattle.fleet_history.specs.declared.history.Bye.{Bye}
use Rattle.fleet_history.specs.declared.history.Entry.{Entry}
use Rattle.fleet_history.specs.declared.history.Entry.TheVariants as entry
use Rattle.fleet_history.specs.History.{History, after, clock}
use Rattle.fleet_history.specs.Legal.{Fits}
use Rattle.fleet_state.specs.Robots.{HasPlace}
use Rattle.fleet_state.specs.State.{State, IsStateOf}

-- of a history of which the first is the state, and which the entry fits, the second is the state after the entry
abbrev pub Follows : {A : Type 0} → State A → Entry A → State A → Type 0
Follows {A} s e t = (m : Floor) (h : History A) → IsStateOf m h s → Fits m h e → IsStateOf m (after h e) t

-- it is the state of a history that the entry fits, with numbers that may still grow
pub record MayFollow {A : Type 0} (s : State A) (e : Entry A) : Type 0 where
  pub floor : Floor
  pub history : History A
  pub is : IsStateOf floor history s
  pub fits : Fits floor history e
  pub early : clock history < 2 ^ 63
  pub few : length history.entries < 2 ^ 63

-- the tick to these cells, whatever its stamps
abbrev pub FollowsTick : {A : Type 0} → State A → List ℕ → State A → Type 0
FollowsTick s to t = (arrived : List Arrival) (farewells : List Bye) → Follows s (entry.Tick to arrived farewells) t

-- it is the state of a history that may go on with a tick to these cells
pub record MayTick {A : Type 0} (s : State A) (to : List ℕ) : Type 0 where
  pub arrived : List Arrival
  pub farewells : List Bye
  pub may : MayFollow s (entry.Tick to arrived farewells)

-- the robot's shut, whatever its farewell
abbrev pub FollowsShut : {A : Type 0} → State A → ℕ → State A → Type 0
FollowsShut s robot t = (farewell : Option ℕ) → Follows s (entry.Shut robot farewell) t

-- it is the state of a history that may go on with the robot's shut
pub record MayShut {A : Type 0} (s : State A) (robot : ℕ) : Type 0 where
  pub farewell : Option ℕ
  pub may : MayFollow s (entry.Shut robot farewell)

-- an errand that the entry accepts finds room
abbrev pub IsPlaced : {A : Type 0} → List Queue → Entry A → Type 0
IsPlaced queues (entry.Take client order verdict) = HasPlace queues order verdict
IsPlaced queues _ = Unit {0}
