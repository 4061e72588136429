-- Which moves may begin.
use Rattle.std.specs.Prelude.{◌≡◌, ℕ, ◌<◌, ◌≤◌, ◌⊎◌}
use Rattle.execution_law.specs.declared.clearance.Clearance.TheVariants.{Arrived, Started}
use Rattle.execution_law.specs.Run.{Run, IsConflictFree, Moves, Leaves, Turns, IsMate}

-- the stay that robot q ends in step e of the plan has ended: q has reached its next cell; or it has begun to move there,
-- and that is enough by the clearance, or since it turns in a cycle
abbrev pub HasEnded : Run → ℕ → ℕ → Type 0
HasEnded run q e = (e ≤ run.reached q) ⊎ ((e ≤ run.begun q) × ((run.clearance ≡ Started) ⊎ Turns run.plan e q))

-- robot r has done with its last move: it has reached its cell; and if it turned in a cycle, and a robot must arrive before
-- its cell is clear, so have all that turned with it
pub record IsFree (run : Run) (r : ℕ) : Type 0 where
  pub stands : run.begun r ≡ run.reached r
  pub turned : run.clearance ≡ Arrived → Turns run.plan (run.begun r) r → (q : ℕ) → IsMate run.plan (run.begun r) r q → run.begun r ≤ run.reached q

-- the first move of robot r that it has not begun is that of step t
pub record IsNext (run : Run) (r t : ℕ) : Type 0 where
  pub planned : t ≤ run.plan.steps
  pub moves : Moves run.plan r t
  pub begins : run.begun r < t
  pub first : (s : ℕ) → run.begun r < s → s < t → Moves run.plan r s → ⊥

-- that move may begin: each stay that the plan has on the new cell before has ended
pub record MayBeginAlone (run : Run) (r t : ℕ) : Type 0 where
  pub free : IsFree run r
  pub next : IsNext run r t
  pub clear : (q e : ℕ) → q < run.plan.robots → e ≤ t → Leaves run.plan q e (run.plan.cell t r) → HasEnded run q e

-- that move may begin with the moves of all that turn with robot r in a cycle
pub record MayTurn (run : Run) (r t : ℕ) : Type 0 where
  pub turns : Turns run.plan t r
  pub free : (q : ℕ) → IsMate run.plan t r q → IsFree run q
  pub next : (q : ℕ) → IsMate run.plan t r q → IsNext run q t

-- the move of robot r in step t may begin
abbrev pub MayBegin : Run → ℕ → ℕ → Type 0
MayBegin run r t = MayBeginAlone run r t ⊎ MayTurn run r t

-- robots are within their plan; each move was begun when the stays before had ended; a cycle began as a whole
pub record IsLawful (run : Run) : Type 0 where
  pub free_of_conflicts : IsConflictFree run.plan
  pub within : (r : ℕ) → r < run.plan.robots → run.begun r ≤ run.plan.steps
  pub behind : (r : ℕ) → r < run.plan.robots → run.reached r ≤ run.begun r
  pub moves : (r : ℕ) → r < run.plan.robots → 0 < run.begun r → Moves run.plan r (run.begun r)
  pub order : (r t q e : ℕ) → r < run.plan.robots → t ≤ run.begun r → Moves run.plan r t → q < run.plan.robots → e ≤ t → Leaves run.plan q e (run.plan.cell t r) → HasEnded run q e
  pub together : (r q t : ℕ) → r < run.plan.robots → Turns run.plan t r → IsMate run.plan t r q → t ≤ run.begun r → t ≤ run.begun q
