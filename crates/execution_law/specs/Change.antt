-- What changes a run: a longer plan, moves that begin, and reports.
use Rattle.std.specs.Prelude.{◌≡◌, ◌≢◌, ℕ, ◌<◌, ◌≤◌, ◌⊎◌}
use Rattle.execution_law.specs.declared.clearance.Clearance.{Clearance}
use Rattle.execution_law.specs.Run.{Plan, Run, Turns, IsMate}
use Rattle.execution_law.specs.Rule.{MayBegin}

-- no move has begun
abbrev pub opened : Clearance → Plan → Run
opened clearance plan = record { clearance = clearance; plan = plan; begun = λ _. 0; reached = λ _. 0 }

-- the plan goes on: it has at least as many steps, and the cells of the steps that it had stay
pub record Extends (plan : Plan) (steps : ℕ) (cell : ℕ → ℕ → ℕ) : Type 0 where
  pub longer : plan.steps ≤ steps
  pub same : (t r : ℕ) → t ≤ plan.steps → r < plan.robots → cell t r ≡ plan.cell t r

-- robot q begins with robot r, whose move in step t begins: it is this robot, or turns with it
abbrev pub BeginsWith : Plan → ℕ → ℕ → ℕ → Type 0
BeginsWith plan t r q = (q ≡ r) ⊎ (Turns plan t r × IsMate plan t r q)

-- what robots have begun after the move of robot r in step t has begun
pub record Begins (run : Run) (r t : ℕ) (begun : ℕ → ℕ) : Type 0 where
  pub inside : r < run.plan.robots
  pub may : MayBegin run r t
  pub each : (q : ℕ) → q < run.plan.robots → (BeginsWith run.plan t r q × (begun q ≡ t)) ⊎ ((BeginsWith run.plan t r q → ⊥) × (begun q ≡ run.begun q))

-- what robots have reached after the report of robot r, which is under way
pub record Reports (run : Run) (r : ℕ) (reached : ℕ → ℕ) : Type 0 where
  pub inside : r < run.plan.robots
  pub under_way : run.reached r < run.begun r
  pub own : reached r ≡ run.begun r
  pub others : (q : ℕ) → q < run.plan.robots → q ≢ r → reached q ≡ run.reached q
