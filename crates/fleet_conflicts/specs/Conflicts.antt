-- All conflicts of a plan: by time, and at one time by robot; of two robots it is that of the one with the greater number.
use Rattle.std.specs.Prelude.{◌≡◌, ◌≢◌, ℕ, ◌<◌, ◌+◌, ◌-◌, Bool, true, false, List, [], ◌∷◌, ◌++◌, map, length, slice_index, Some, Ok}
use Rattle.fleet_map.specs.Grammar.{Map, map_of}
use Rattle.fleet_grid.specs.Floor.{Floor, IsFloor, floor_of_map}
use Rattle.fleet_check.specs.Fault.{Moves}
use Rattle.fleet_check.specs.inside.Seats.{IsSeat}
use Rattle.fleet_check.specs.declared.fault.StepFault.{StepFault}
use Rattle.fleet_check.specs.declared.fault.StepFault.TheVariants.{Length, OffFloor, NotAdjacent, Vertex, Swap}
use Rattle.fleet_plans.specs.declared.answer.PlanAnswer.{PlanAnswer}
use Rattle.fleet_plans.specs.declared.form.TextForm.{TextForm}
use Rattle.fleet_plans.specs.Answer.{IsAnswerTo, is_invalid}
use Rattle.fleet_plans.specs.Goals.{Nothing}
use Rattle.fleet_plans.specs.Study.{IsFormStudy}
use Rattle.fleet_plans.specs.Valid.{place_at}
use Rattle.fleet_conflicts.specs.declared.conflicts.Conflict.{Conflict}

-- robot j, of a lesser number, is the first that comes to the cell to which r comes
abbrev pub Shares : List ℕ → ℕ → ℕ → Type 0
Shares to r j = (j < r) × IsSeat to 0 (slice_index to r) (Some j)

-- robot j, of a lesser number, is the first that comes to the cell that r leaves, and comes from the cell to which r goes
abbrev pub Swaps : List ℕ → List ℕ → ℕ → ℕ → Type 0
Swaps from to r j = (j < r) × IsSeat to 0 (slice_index from r) (Some j) × (slice_index from j ≡ slice_index to r) × (slice_index to r ≢ slice_index from r)

-- the fault, if it is there
pub data IsPart (Holds : Type 0) (fault : StepFault) (faults : List StepFault) : Type 0 where
  there : Holds → faults ≡ fault ∷ [] → IsPart Holds fault faults
  not_there : (Holds → ⊥) → faults ≡ [] → IsPart Holds fault faults

-- the fault with another robot, if there is one
pub data IsPair (Holds : ℕ → Type 0) (fault : ℕ → StepFault) (faults : List StepFault) : Type 0 where
  other : (j : ℕ) → Holds j → faults ≡ fault j ∷ [] → IsPair Holds fault faults
  no_other : ((j : ℕ) → Holds j → ⊥) → faults ≡ [] → IsPair Holds fault faults

-- what a robot does wrong in a step
pub record OfRobot (m : Floor) (from to : List ℕ) (r : ℕ) (faults : List StepFault) : Type 0 where
  pub off : List StepFault
  pub far : List StepFault
  pub shared : List StepFault
  pub swapped : List StepFault
  pub is_off : IsPart (IsFloor m (slice_index to r) → ⊥) (OffFloor r) off
  pub is_far : IsPart (Moves m from to r → ⊥) (NotAdjacent r) far
  pub is_shared : IsPair (Shares to r) (λ j. Vertex j r) shared
  pub is_swapped : IsPair (Swaps from to r) (λ j. Swap j r) swapped
  pub all : faults ≡ off ++ (far ++ (shared ++ swapped))

-- what the first robots of this number do wrong
pub data OfRobots (m : Floor) (from to : List ℕ) : ℕ → List StepFault → Type 0 where
  no_robot : OfRobots m from to 0 []
  next_robot : (r : ℕ) (before now : List StepFault) → OfRobots m from to r before → OfRobot m from to r now → OfRobots m from to (r + 1) (before ++ now)

-- what is wrong with a step
pub data OfStep (m : Floor) (from to : List ℕ) (faults : List StepFault) : Type 0 where
  uneven : length to ≢ length from → faults ≡ Length ∷ [] → OfStep m from to faults
  even : length to ≡ length from → OfRobots m from to (length to) faults → OfStep m from to faults

-- a fault of the step to this time
abbrev pub at_time : ℕ → StepFault → Conflict
at_time time fault = record { time = time; fault = fault }

-- what is wrong up to a time; the placement at time 0 is taken as a step from itself
pub data UpTo (m : Floor) (places : List (List ℕ)) : ℕ → List Conflict → Type 0 where
  no_time : UpTo m places 0 []
  next_time : (time : ℕ) (before : List Conflict) (now : List StepFault) → UpTo m places time before → OfStep m (place_at places (time - 1)) (place_at places time) now
      → UpTo m places (time + 1) (before ++ map (at_time time) now)

-- the conflicts of a plan that is read in a form and is not valid; none of any other text
pub data AreConflictsOf (form : TextForm) (bytes text : List ℕ) (conflicts : List Conflict) : Type 0 where
  not_invalid : (said : PlanAnswer) → IsAnswerTo Nothing bytes form text said → is_invalid said ≡ false → conflicts ≡ [] → AreConflictsOf form bytes text conflicts
  invalid : (m : Map) → map_of bytes ≡ Ok m → (said : PlanAnswer) (places : List (List ℕ)) → IsFormStudy Nothing m form text said places → is_invalid said ≡ true
      → UpTo (floor_of_map m) places (length places) conflicts → AreConflictsOf form bytes text conflicts
