-- The plan of placements, and what is written of its execution.
use Rattle.std.specs.Prelude.{◌≡◌, ℕ, ◌<◌, ◌⊎◌, List, [], ◌∷◌, ◌++◌, length, slice_index, Option}
use Rattle.std.specs.Io.KnownBytes.{Appends}
use Rattle.execution_law.specs.declared.clearance.Clearance.{Clearance}
use Rattle.fleet_execution.specs.Checked.{IsPlacement}
use Rattle.fleet_execution.specs.Course.{Course, course_at}
use Rattle.fleet_plans.specs.Valid.{place_at}
use Rattle.fleet_text.specs.Transfer.{AppendsPrefix}
use Rattle.fleet_execute.specs.declared.fault.HoldFault.{HoldFault}
use Rattle.fleet_execute.specs.declared.fault.HoldFault.TheVariants.{Output, NoMemory, Conflict}
use Rattle.fleet_execute.specs.declared.plan.Plan.{Plan}
use Rattle.fleet_execute.specs.Dialogue.{IsDialogue, BreaksOff, done_text}

-- all cells, one placement after another
abbrev pub all_cells : List (List ℕ) → List ℕ
all_cells [] = []
all_cells (cells ∷ places) = cells ++ all_cells places

-- the first placement; no cells where there is none
abbrev pub first_of : List (List ℕ) → List ℕ
first_of places = place_at places 0

-- the plan has these placements
pub record IsPlanOf (places : List (List ℕ)) (plan : Plan) : Type 0 where
  pub robots : plan.robots ≡ length (first_of places)
  pub cells : plan.cells.items ≡ all_cells places

-- each of the cells is below this number, or it is the greatest of 32 bits
abbrev pub IsAbove : ℕ → List ℕ → Type 0
IsAbove n cells = (i : ℕ) → i < length cells → (slice_index cells i < n) ⊎ (n ≡ 4294967295)

-- placements that nobody can execute; those of a valid plan are none of these
pub data IsUnfit (places : List (List ℕ)) : Type 0 where
  many : 4294967295 < length (first_of places) → IsUnfit places
  short : length (all_cells places) < length (first_of places) → IsUnfit places
  unplaced : (n : ℕ) → IsAbove n (all_cells places) → (IsPlacement n (first_of places) → ⊥) → IsUnfit places

-- the course before the first step
abbrev pub start_of : Clearance → List (List ℕ) → Course
start_of clearance places = course_at clearance (first_of places)

-- all that is written of an execution, with these bytes as its input
pub data IsExecution (clearance : Clearance) (places : List (List ℕ)) (bytes text : List ℕ) : Type 0 where
  nobody : length (first_of places) ≡ 0 → text ≡ done_text → IsExecution clearance places bytes text
  held : (plan : Plan) → IsPlanOf places plan → IsDialogue plan (start_of clearance places) bytes text → IsExecution clearance places bytes text

-- how one breaks off
pub data IsBroken (clearance : Clearance) (places : List (List ℕ)) (bytes : List ℕ) (before after : Option (List ℕ)) (fault : HoldFault) : Type 0 where
  unsaid : length (first_of places) ≡ 0 → fault ≡ Output → AppendsPrefix before after done_text → IsBroken clearance places bytes before after fault
  unopened : fault ≡ NoMemory → Appends before after [] → IsBroken clearance places bytes before after fault
  unfit : fault ≡ Conflict 0 → IsUnfit places → Appends before after [] → IsBroken clearance places bytes before after fault
  broken : (plan : Plan) → IsPlanOf places plan → BreaksOff plan (start_of clearance places) bytes before after fault → IsBroken clearance places bytes before after fault
