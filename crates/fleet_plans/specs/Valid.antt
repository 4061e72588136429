-- Valid plans, and what is at fault in others. Item t of a plan's placements has the robots' cells at time t.
use Rattle.std.specs.Prelude.{◌≡◌, ℕ, ◌+◌, ◌-◌, ◌^◌, ◌<◌, ◌≤◌, ◌⊎◌, List, [], length, slice_index, slice_index_or}
use Rattle.fleet_grid.specs.Floor.{Floor}
use Rattle.fleet_grid.specs.Step.{IsPlacement, IsConflictFree}
use Rattle.fleet_check.specs.Fault.{IsPlacementFault, IsFirstFault}
use Rattle.fleet_check.specs.declared.fault.StepFault.{StepFault}
use Rattle.fleet_check.specs.declared.fault.StepFault.TheVariants as step
use Rattle.fleet_plans.specs.declared.judging.PlanFault.{PlanFault}

-- the robots' cells at a time
abbrev pub place_at : List (List ℕ) → ℕ → List ℕ
place_at places t = slice_index_or places t []

-- the robots' cells at the end
abbrev pub last_of : List (List ℕ) → List ℕ
last_of places = place_at places (length places - 1)

-- the first n steps are conflict-free
abbrev pub AreStepsFree : Floor → List (List ℕ) → ℕ → Type 0
AreStepsFree m places n = (t : ℕ) → t < n → IsConflictFree m (place_at places t) (place_at places (t + 1))

-- the robots can start so, and each step is conflict-free
pub record IsValidPlan (m : Floor) (places : List (List ℕ)) : Type 0 where
  pub starts : IsPlacement m (place_at places 0)
  pub steps : (t : ℕ) → t + 1 < length places → IsConflictFree m (place_at places t) (place_at places (t + 1))

-- the step that leads from time t to time t + 1 is the first at fault
pub record IsStepFault (m : Floor) (places : List (List ℕ)) (t : ℕ) (fault : StepFault) : Type 0 where
  pub starts : IsPlacement m (place_at places 0)
  pub before : AreStepsFree m places t
  pub inside : t + 1 < length places
  pub first : IsFirstFault m (place_at places t) (place_at places (t + 1)) fault

-- the placement at this time is the first at fault
abbrev pub IsPlanFault : Floor → List (List ℕ) → ℕ → StepFault → Type 0
IsPlanFault m places time fault =
    ((time ≡ 0) × IsPlacementFault m (place_at places 0) fault) ⊎ ((t : ℕ) × (time ≡ t + 1) × IsStepFault m places t fault)

-- the first robot at fault; 0 if none is
abbrev pub robot_at_fault : StepFault → ℕ
robot_at_fault step.Length = 0
robot_at_fault (step.OffFloor r) = r
robot_at_fault (step.NotAdjacent r) = r
robot_at_fault step.NoMemory = 0
robot_at_fault (step.Vertex i j) = i
robot_at_fault (step.Swap i j) = i

-- a fault with the cells of the first robot at fault in two placements
abbrev pub fault_between : ℕ → StepFault → List ℕ → List ℕ → PlanFault
fault_between time fault from to = record { time = time; fault = fault; from = slice_index from (robot_at_fault fault); to = slice_index to (robot_at_fault fault) }

-- the cells of a fault are those of the first robot at fault, at the time before and at the time of the fault
pub record HasCells (places : List (List ℕ)) (f : PlanFault) : Type 0 where
  pub before : f.from ≡ slice_index (place_at places (f.time - 1)) (robot_at_fault f.fault)
  pub there : f.to ≡ slice_index (place_at places f.time) (robot_at_fault f.fault)

-- there are not more times and robots than the longest text can have
pub record HasSize (places : List (List ℕ)) : Type 0 where
  pub some : 1 ≤ length places
  pub times : length places < 2 ^ 32
  pub robots : length (place_at places 0) < 2 ^ 32
