-- The first part of an opening that is not in order.
use Rattle.std.specs.Prelude.{ℕ, ◌^◌, ◌≡◌, ◌<◌, ◌≤◌, Some, All, map, length, slice_get, slice_index_or}
use Rattle.fleet_grid.specs.Floor.{Floor}
use Rattle.fleet_grid.specs.Step.{IsPlacement}
use Rattle.fleet_queue.specs.declared.errand.Errand.{Errand}
use Rattle.fleet_history.specs.declared.history.RobotState.{RobotState}
use Rattle.fleet_history.specs.declared.history.Opening.{Opening}
use Rattle.fleet_history.specs.History.{errands_at, unknown_client}
use Rattle.fleet_history.specs.Legal.{IsRobotInOrder, IsClientInOrder, owed_at}
use Rattle.fleet_trace.specs.declared.part.OpeningPart.{OpeningPart}
use Rattle.fleet_trace.specs.declared.part.OpeningPart.TheVariants.{Robots, Clients, Queue, Life, Cells, Robot, Client, Names}

-- a number from the least to the greatest
abbrev pub IsWithin : ℕ → ℕ → ℕ → Type 0
IsWithin least greatest n = (least ≤ n) × (n ≤ greatest)

-- there are 1 to 512 robots
abbrev pub HasRobots : {A : Type 0} → Opening A → Type 0
HasRobots o = IsWithin 1 512 (length o.robots)

-- there are 1 to 64 clients
abbrev pub HasClients : {A : Type 0} → Opening A → Type 0
HasClients o = IsWithin 1 64 (length o.clients)

-- a robot may have 1 to 65,536 errands
abbrev pub HasQueue : {A : Type 0} → Opening A → Type 0
HasQueue o = IsWithin 1 65536 o.queue

-- a client may have 1 to 2^40 errands accepted
abbrev pub HasLife : {A : Type 0} → Opening A → Type 0
HasLife o = IsWithin 1 (2 ^ 40) o.life

-- all four are in their ranges
abbrev pub HasNumbers : {A : Type 0} → Opening A → Type 0
HasNumbers o = HasRobots o × HasClients o × HasQueue o × HasLife o

-- the robots stand on distinct floor cells
abbrev pub IsPlaced : {A : Type 0} → Floor → Opening A → Type 0
IsPlaced m o = IsPlacement m (map (λ x. x.cell) o.robots)

-- what is known of a client at the opening is in order
abbrev pub AreCountsInOrder : {A : Type 0} → Opening A → ℕ → Type 0
AreCountsInOrder o c = IsClientInOrder o.life (owed_at o c) (slice_index_or o.clients c unknown_client)

-- a client's errands on two robots are of different numbers, and on one robot their numbers rise
pub record AreNamesOfInOrder {A : Type 0} (o : Opening A) (c : ℕ) : Type 0 where
  pub apart : (r q i j : ℕ) (x y : Errand) → slice_get (errands_at o r) i ≡ Some x → slice_get (errands_at o q) j ≡ Some y →
      x.client ≡ c → y.client ≡ c → x.number ≡ y.number → r ≡ q
  pub rising : (r i j : ℕ) (x y : Errand) → i < j → slice_get (errands_at o r) i ≡ Some x → slice_get (errands_at o r) j ≡ Some y →
      x.client ≡ c → y.client ≡ c → x.number < y.number

-- the robot is the first that is not in order
pub record IsFirstRobot {A : Type 0} (m : Floor) (o : Opening A) (r : ℕ) : Type 0 where
  pub robot : RobotState A
  pub stands : slice_get o.robots r ≡ Some robot
  pub before : (q : ℕ) (x : RobotState A) → q < r → slice_get o.robots q ≡ Some x → IsRobotInOrder m o x
  pub out : IsRobotInOrder m o robot → ⊥

-- the client is one before which each client, and the names of its errands, are in order
pub record AreClientsBefore {A : Type 0} (o : Opening A) (c : ℕ) : Type 0 where
  pub known : c < length o.clients
  pub counts : (k : ℕ) → k < c → AreCountsInOrder o k
  pub names : (k : ℕ) → k < c → AreNamesOfInOrder o k

-- the client, or the names of its errands, is the first that is not in order
abbrev pub IsFirstClient : {A : Type 0} → Opening A → OpeningPart → Type 0
IsFirstClient o (Client c) = AreClientsBefore o c × (AreCountsInOrder o c → ⊥)
IsFirstClient o (Names c) = AreClientsBefore o c × AreCountsInOrder o c × (AreNamesOfInOrder o c → ⊥)
IsFirstClient o _ = ⊥

-- the part is the first that is not in order: the numbers come first, then the cells, then robot by robot, then client by client
abbrev pub IsOutOfOrder : {A : Type 0} → Floor → Opening A → OpeningPart → Type 0
IsOutOfOrder m o Robots = HasRobots o → ⊥
IsOutOfOrder m o Clients = HasRobots o × (HasClients o → ⊥)
IsOutOfOrder m o Queue = HasRobots o × HasClients o × (HasQueue o → ⊥)
IsOutOfOrder m o Life = HasRobots o × HasClients o × HasQueue o × (HasLife o → ⊥)
IsOutOfOrder m o Cells = HasNumbers o × (IsPlaced m o → ⊥)
IsOutOfOrder m o (Robot r) = HasNumbers o × IsPlaced m o × IsFirstRobot m o r
IsOutOfOrder m o p = HasNumbers o × IsPlaced m o × All (IsRobotInOrder m o) o.robots × IsFirstClient o p
