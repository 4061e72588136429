-- What an opening in order asks of its errands, one by one.
use Rattle.std.specs.Prelude.{ℕ, ◌^◌, ◌≡◌, ◌<◌, ◌≤◌, ◌==◌, ◌⊎◌, Bool, not, is_some, List, [], Option, Some, None, map, length, count_by, sum_by, slice_get, slice_index_or}
use Rattle.fleet_grid.specs.Floor.{Floor, IsFloor, IsNeighbour}
use Rattle.fleet_grid.specs.Walk.{AreJoined}
use Rattle.fleet_queue.specs.declared.errand.Errand.{Errand}
use Rattle.fleet_history.specs.declared.history.ClientState.{ClientState}
use Rattle.fleet_history.specs.declared.history.RobotState.{RobotState}
use Rattle.fleet_history.specs.declared.history.Opening.{Opening}
use Rattle.fleet_history.specs.History.{unknown_client}

-- an errand of a robot on this cell is in order
pub record IsErrandInOrder (m : Floor) (clients : List ClientState) (cell : ℕ) (e : Errand) : Type 0 where
  pub known : e.client < length clients
  pub numbered : (1 ≤ e.number) × (e.number ≤ (slice_index_or clients e.client unknown_client).accepted)
  pub on_floor : IsFloor m e.cell
  pub reachable : AreJoined (IsNeighbour m) cell e.cell

-- how many errands of the robots are the client's
abbrev pub owed_in : {A : Type 0} → List (RobotState A) → ℕ → ℕ
owed_in robots c = sum_by (λ x. count_by (λ e. e.client == c) x.errands) robots

-- the client's errand of this number stands at the place
pub record IsNamed (errands : List Errand) (c n place : ℕ) : Type 0 where
  pub errand : Errand
  pub stands : slice_get errands place ≡ Some errand
  pub client : errand.client ≡ c
  pub number : errand.number ≡ n

-- the numbers of a client's errands rise
abbrev pub AreRising : ℕ → List Errand → Type 0
AreRising c errands = (i j n l : ℕ) → i < j → IsNamed errands c n i → IsNamed errands c l j → n < l

-- the errands of a robot
abbrev pub errands_in : {A : Type 0} → List (RobotState A) → ℕ → List Errand
errands_in robots r = slice_index_or (map (λ x. x.errands) robots) r []

-- a client's errands are of different names on different robots, and their numbers rise on each
pub record AreClientNamesInOrder {A : Type 0} (robots : List (RobotState A)) (c : ℕ) : Type 0 where
  pub apart : (r q i j n : ℕ) → IsNamed (errands_in robots r) c n i → IsNamed (errands_in robots q) c n j → r ≡ q
  pub rising : (r : ℕ) → AreRising c (errands_in robots r)

-- place i of robot r stands before place j of robot q
abbrev pub Precedes : ℕ → ℕ → ℕ → ℕ → Type 0
Precedes r i q j = (r < q) ⊎ ((r ≡ q) × (i < j))

-- the numbers of the client's errands before place i of robot r, each with its robot
pub record AreEntered {A : Type 0} (robots : List (RobotState A)) (c r i : ℕ) (robot_of : ℕ → Option ℕ) : Type 0 where
  pub each : (q j n : ℕ) → Precedes q j r i → IsNamed (errands_in robots q) c n j → robot_of n ≡ Some q
  pub only : (n q : ℕ) → robot_of n ≡ Some q → (j : ℕ) × (Precedes q j r i × IsNamed (errands_in robots q) c n j)

-- the greatest number of the client's errands before the place
abbrev pub IsGreatest : List Errand → ℕ → ℕ → Option ℕ → Type 0
IsGreatest errands c place None = (i n : ℕ) → i < place → IsNamed errands c n i → ⊥
IsGreatest errands c place (Some last) =
    ((i : ℕ) × ((i < place) × IsNamed errands c last i)) × ((i n : ℕ) → i < place → IsNamed errands c n i → n ≤ last)

-- the number is above the last, if there is one
abbrev pub IsAbove : ℕ → Option ℕ → Type 0
IsAbove n None = n ≡ n
IsAbove n (Some last) = last < n

-- a wait is there exactly where a robot is not idle, and no longer than the clock
pub record IsWaitInOrder (wait : Option ℕ) (idle : Bool) (tick : ℕ) : Type 0 where
  pub waits : is_some wait ≡ not idle
  pub not_longer : (w : ℕ) → wait ≡ Some w → w ≤ tick

-- the numbers of robots and clients, and what they may have, are in their ranges
pub record AreSizesInOrder {A : Type 0} (o : Opening A) : Type 0 where
  pub some_robots : 1 ≤ length o.robots
  pub few_robots : length o.robots ≤ 512
  pub some_clients : 1 ≤ length o.clients
  pub few_clients : length o.clients ≤ 64
  pub queue : (1 ≤ o.queue) × (o.queue ≤ 65536)
  pub life : (1 ≤ o.life) × (o.life ≤ 2 ^ 40)
