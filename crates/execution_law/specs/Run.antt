-- A run: a plan, and how far each robot has come with it.
use Rattle.std.specs.Prelude.{◌≡◌, ◌≢◌, ℕ, zero, suc, ◌-◌, ◌<◌, ◌≤◌}
use Rattle.execution_law.specs.declared.clearance.Clearance.{Clearance}

-- Robots have the numbers below `robots`, and the plan's steps the numbers from 1 to `steps`. `cell t r` is the cell of
-- robot r after step t, and `cell 0 r` that before the first.
pub record Plan : Type 0 where
  pub robots : ℕ
  pub steps : ℕ
  pub cell : ℕ → ℕ → ℕ

-- `begun r` is the step of the last move that robot r has begun, and `reached r` that of the last that it has reached; 0
-- if there is none
pub record Run : Type 0 where
  pub clearance : Clearance
  pub plan : Plan
  pub begun : ℕ → ℕ
  pub reached : ℕ → ℕ

-- no two robots are on one cell after a step, and no two exchange their cells in one
pub record IsConflictFree (plan : Plan) : Type 0 where
  pub distinct : (t r q : ℕ) → t ≤ plan.steps → r < plan.robots → q < plan.robots → plan.cell t r ≡ plan.cell t q → r ≡ q
  pub no_swap : (t r q : ℕ) → 0 < t → t ≤ plan.steps → r < plan.robots → q < plan.robots → plan.cell t r ≡ plan.cell (t - 1) q → plan.cell t q ≡ plan.cell (t - 1) r → r ≡ q

-- robot r changes its cell in step t
pub record Moves (plan : Plan) (r t : ℕ) : Type 0 where
  pub later : 0 < t
  pub other : plan.cell t r ≢ plan.cell (t - 1) r

-- robot r leaves the cell in step t
pub record Leaves (plan : Plan) (r t c : ℕ) : Type 0 where
  pub moves : Moves plan r t
  pub cell : plan.cell (t - 1) r ≡ c

-- robot r enters in step t the cell that robot q leaves in it
pub record Follows (plan : Plan) (t r q : ℕ) : Type 0 where
  pub enters : Moves plan r t
  pub leaves : Leaves plan q t (plan.cell t r)

-- a chain of n robots in step t, each entering the cell that the next one leaves, from r to q
abbrev pub Leads : Plan → ℕ → ℕ → ℕ → ℕ → Type 0
Leads plan t zero r q = r ≡ q
Leads plan t (suc n) r q = (p : ℕ) × (p < plan.robots) × Follows plan t r p × Leads plan t n p q

-- robot q is reached from r: where r turns in a cycle, q is one of those that turn with it
pub record IsMate (plan : Plan) (t r q : ℕ) : Type 0 where
  pub count : ℕ
  pub leads : Leads plan t count r q

-- robot r turns in a cycle in step t: it leaves its cell to a robot that is reached from it
pub record Turns (plan : Plan) (t r : ℕ) : Type 0 where
  pub count : ℕ
  pub leads : Leads plan t (suc count) r r
