-- How far robots have come with a plan.
use Rattle.std.specs.Prelude.{ℕ, ◌+◌, ◌==◌, nat_le, if◌then◌else◌, List, length, slice_index}
use Rattle.execution_law.specs.declared.clearance.Clearance.{Clearance}
use Rattle.execution_law.specs.Run.{Plan, Run}
use Rattle.execution_law.specs.Change.{opened}

-- a run, and by robot the step of the last of its moves that was returned by `begin`; 0 if there is none. A cycle begins
-- as a whole, and its moves are returned one after the other.
pub record Course : Type 0 where
  pub run : Run
  pub returned : ℕ → ℕ

-- the function with another value at one number
abbrev pub put : (ℕ → ℕ) → ℕ → ℕ → ℕ → ℕ
put f r v q = if q == r then v else f q

-- the plan with a further step: `to` has the cell of each robot after it
abbrev pub longer : Plan → List ℕ → Plan
longer plan to = record plan { steps = plan.steps + 1; cell = λ t r. if nat_le t plan.steps then plan.cell t r else slice_index to r }

-- the course with a further step of its plan; what robots have done stays
abbrev pub with_step : Course → List ℕ → Course
with_step o to = record o { run = record o.run { plan = longer o.run.plan to } }

-- the plan with no step: robots stand on these cells
abbrev pub placed : List ℕ → Plan
placed cells = record { robots = length cells; steps = 0; cell = λ t r. slice_index cells r }

-- the execution of the plan with no step, at the beginning
abbrev pub course_at : Clearance → List ℕ → Course
course_at clearance cells = record { run = opened clearance (placed cells); returned = λ r. 0 }
