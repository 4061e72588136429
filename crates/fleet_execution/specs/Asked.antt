-- What is asked of what is kept.
use Rattle.std.specs.Prelude.{◌≡◌, ◌≢◌, ℕ, suc, ◌+◌, ◌-◌, ◌%◌, ◌<◌, ◌≤◌, Option, Some, None}
use Rattle.execution_law.specs.declared.clearance.Clearance.TheVariants.{Arrived, Started}
use Rattle.execution_law.specs.declared.clearance.Clearance.{Clearance}
use Rattle.fleet_execution.specs.declared.robot.Robot.{Robot}
use Rattle.fleet_execution.specs.declared.robot.Leave.{Leave}
use Rattle.fleet_execution.specs.Desk.{Desk, before_in, chain}

-- the robot's first move that was not returned is in step t
pub record IsNextIn (d : Desk) (r t : ℕ) : Type 0 where
  pub planned : t ≤ d.steps
  pub late : d.steps < t + d.ahead
  pub after : (d.robot r).returned < t
  pub other : (d.window r t).to ≢ (d.robot r).bound
  pub first : (u : ℕ) → (d.robot r).returned < u → d.steps < u + d.ahead → u < t → (d.window r u).to ≡ (d.robot r).bound

-- those that turned with the robot in the last move that it has reached have reached their cells
abbrev pub HaveTurned : Desk → ℕ → Robot → Type 0
HaveTurned d r s = s.turned ≡ s.reached → 0 < s.reached → d.steps < s.reached + d.ahead →
    (k : ℕ) → s.reached ≤ (d.robot (chain (before_in d.window s.reached) r k)).reached

-- the robot has done with its last move
pub record IsFreeIn (d : Desk) (r : ℕ) : Type 0 where
  pub stands : (d.robot r).returned ≡ (d.robot r).reached
  pub turned : d.clearance ≡ Arrived → HaveTurned d r (d.robot r)

-- how far the robot has come as the clearance counts
abbrev pub progress_by : Clearance → Robot → ℕ
progress_by Arrived s = s.reached
progress_by Started s = s.returned

-- the stay has ended, which did not end in a cycle
abbrev pub HasEndedIn : Desk → Option Leave → Type 0
HasEndedIn d None = Unit {0}
HasEndedIn d (Some l) = l.step ≤ progress_by d.clearance (d.robot l.robot)

-- the robots that turn with robot r in step t: each leaves the cell that another enters
pub record IsRing (d : Desk) (t r : ℕ) : Type 0 where
  pub inside : (k : ℕ) → chain (before_in d.window t) r k < d.count
  pub apart : (i j : ℕ) → chain (before_in d.window t) r (suc i) ≡ chain (before_in d.window t) r (suc j) → chain (before_in d.window t) r i ≡ chain (before_in d.window t) r j

-- robot q leaves its cell to the one before it in the same step
abbrev pub IsLinked : Desk → ℕ → ℕ → Type 0
IsLinked d t q = (l : Leave) × ((d.window q t).after ≡ Some l) × (l.step ≡ t)

-- the robot's next move is in step t, and it has done with the one before
pub record IsReadyIn (d : Desk) (t q : ℕ) : Type 0 where
  pub next : IsNextIn d q t
  pub free : IsFreeIn d q

-- as many robots turn with robot r, and all of them may
pub record MayTurnIn (d : Desk) (t r size : ℕ) : Type 0 where
  pub some : 0 < size
  pub back : chain (before_in d.window t) r size ≡ r
  pub linked : (j : ℕ) → j < size → IsLinked d t (chain (before_in d.window t) r j)
  pub ready : (j : ℕ) → j < size → IsReadyIn d t (chain (before_in d.window t) r j)

-- all robots that turn with robot r may
abbrev pub MayAllTurn : Desk → ℕ → ℕ → Type 0
MayAllTurn d t r = IsRing d t r × ((k : ℕ) → IsLinked d t (chain (before_in d.window t) r k) × IsReadyIn d t (chain (before_in d.window t) r k))

-- the first of the last n kept steps has a move that is not reached, and no kept step before has
pub record IsBehindIn (d : Desk) (n : ℕ) : Type 0 where
  pub within : n ≤ d.steps
  pub late : n ≤ d.ahead
  pub first : 0 < n → 0 < d.unreached ((d.steps + 1 - n) % d.ahead)
  pub before : (u : ℕ) → n < u → u ≤ d.ahead → u ≤ d.steps → d.unreached ((d.steps + 1 - u) % d.ahead) ≡ 0
