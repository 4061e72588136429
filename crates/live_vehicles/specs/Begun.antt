-- Moves begin.
use Rattle.std.specs.Prelude.{◌≡◌, ℕ, ◌<◌, ◌⊎◌, List, [], ◌∷◌, ◌++◌}
use Rattle.execution_law.specs.Rule.{MayBegin}
use Rattle.execution_law.specs.Change.{Begins}
use Rattle.fleet_execution.specs.declared.motion.Move.{Move}
use Rattle.fleet_execution.specs.Course.{Course, put}
use Rattle.fleet_execution.specs.Executes.{AreReturned}
use Rattle.fleet_execution.specs.Given.{IsMove}
use Rattle.live_vehicles.specs.declared.vehicles.Vehicles.{Vehicles}
use Rattle.live_vehicles.specs.Follows.{Follows}
use Rattle.live_vehicles.specs.Text.{moves_text}

-- the move is the next that is returned: it begins, where each that has begun was returned, or has begun with a cycle
abbrev pub Returned : Course → Move → Course → Type 0
Returned o m p = IsMove o m × (o.returned m.robot < m.tick) × (
    ((b : ℕ → ℕ) × AreReturned o × Begins o.run m.robot m.tick b × (p ≡ record { run = record o.run { begun = b }; returned = put o.returned m.robot m.tick }))
    ⊎ ((o.run.begun m.robot ≡ m.tick) × (p ≡ record { run = o.run; returned = put o.returned m.robot m.tick })))

-- from one course to another these moves begin, in their order
pub data Begun (o : Course) : List Move → Course → Type 0 where
  none : Begun o [] o
  next : (ms : List Move) (m : Move) (p q : Course) → Begun o ms p → Returned p m q → Begun o (ms ++ m ∷ []) q

-- a move has begun, and the vehicles follow
pub record HasReturned (o : Course) (m : Move) (v : Vehicles) : Type 0 where
  pub course : Course
  pub returned : Returned o m course
  pub follows : Follows v course

-- moves have begun until no move may begin; their lines are written after the text before
pub record HasBegun (o : Course) (before after : List ℕ) (v : Vehicles) : Type 0 where
  pub moves : List Move
  pub course : Course
  pub begun : Begun o moves course
  pub follows : Follows v course
  pub written : after ≡ before ++ moves_text v.first moves
  pub returned : AreReturned course
  pub left : (r t : ℕ) → r < course.run.plan.robots → MayBegin course.run r t → ⊥
