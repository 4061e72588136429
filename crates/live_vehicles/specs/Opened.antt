-- Vehicles that set out, and vehicles that are found again.
use Rattle.std.specs.Prelude.{⊤, ◌≡◌, ℕ, ◌<◌, List, [], ◌∷◌, slice_index}
use Rattle.fleet_execution.specs.Course.{Course, with_step}
use Rattle.live_vehicles.specs.declared.regaining.Regained.{Regained}
use Rattle.live_vehicles.specs.declared.regaining.Regained.TheVariants.{Found, Off, NoPlan}
use Rattle.live_vehicles.specs.declared.vehicles.Vehicles.{Vehicles}
use Rattle.live_vehicles.specs.Follows.{Follows}

-- the course on which these steps are planned too
abbrev pub with_steps : Course → List (List ℕ) → Course
with_steps o [] = o
with_steps o (to ∷ steps) = with_steps (with_step o to) steps

-- the vehicles follow a course with the plan of this one: moves have begun by the rule, and some are reached
pub record HasMoved (o : Course) (v : Vehicles) : Type 0 where
  pub course : Course
  pub plan : course.run.plan ≡ o.run.plan
  pub follows : Follows v course

-- and each robot has reached its cell last
abbrev pub AreAt : Course → List ℕ → Vehicles → Type 0
AreAt o at v = (moved : HasMoved o v) × ((r : ℕ) → r < moved.course.run.plan.robots → moved.course.run.plan.cell (moved.course.run.reached r) r ≡ slice_index at r)

abbrev pub IsFound : ℕ → Course → List ℕ → Regained → Type 0
IsFound first o at (Found v) = AreAt o at v × (v.first ≡ first)
IsFound first o at (Off robot) = ⊤
IsFound first o at NoPlan = ⊤
