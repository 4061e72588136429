-- What the calls without a handle say of a map's text.
use Rattle.std.specs.Prelude.{ℕ, ◌≡◌, ◌≢◌, ◌↔◌, ◌<◌, List, length, slice_index, Option, None, Some, Result, IfOk, IfErr}
use Rattle.fleet_map.specs.Text.{lines_of}
use Rattle.fleet_map.specs.FirstFault.{IsFirstFault}
use Rattle.fleet_map.specs.declared.fault.MapFault.{MapFault}
use Rattle.fleet_grid.specs.Floor.{Floor, IsFloor, IsNeighbour}
use Rattle.fleet_grid.specs.Step.{IsPlacement, IsConflictFree}
use Rattle.fleet_grid.specs.Walk.{IsBridgeless, IsDistance, Walks}
use Rattle.fleet_bridge.specs.Bridge.{IsFirstBridge}
use Rattle.fleet_check.specs.Fault.{IsFirstFault as IsFirstStepFault, IsPlacementFault}
use Rattle.fleet_check.specs.declared.fault.StepFault.TheVariants as step
use Rattle.fleet_c.specs.declared.codes.TheConstants.{DONE, WRONG_LENGTH, TOO_MANY, FROM_BLOCKED, FROM_SHARED, TO_LENGTH, OFF_FLOOR, NOT_ADJACENT, VERTEX_CONFLICT, SWAPPING_CONFLICT, NO_MEMORY, NO_BRIDGE, GOAL_BLOCKED}
use Rattle.fleet_c.specs.declared.edge.Edge.{Edge}
use Rattle.fleet_c.specs.declared.fault.Fault.{Fault}
use Rattle.fleet_c.specs.declared.refusal.Refusal.TheVariants as refusal
use Rattle.fleet_c.specs.declared.step_refusal.StepRefusal.{StepRefusal}
use Rattle.fleet_c.specs.declared.step_refusal.StepRefusal.TheVariants as step_refusal
use Rattle.fleet_c.specs.Opening.{Reads, fault, fault_of}

-- the map's fault is told
pub record IsMapFault (why : MapFault) (code : ℕ) (told : Fault) : Type 0 where
  pub fault_is : told ≡ fault_of (refusal.Map why)
  pub code_is : code ≡ told.code

-- the text is no map, by its first fault, which is told
pub record IsNoMap (bytes : List ℕ) (code : ℕ) (told : Fault) : Type 0 where
  pub why : MapFault
  pub first : IsFirstFault (lines_of bytes) why
  pub told_is : IsMapFault why code told

-- the text is a map of which that is said, or its first fault is told, and nothing else
pub record OnMap (bytes : List ℕ) (code : ℕ) (told : Fault) (Says : Floor → Type 0) (Stays : Type 0) : Type 0 where
  pub read : Result Floor MapFault
  pub says : IfOk read (λ m. Reads bytes m × Says m)
  pub first : IfErr read (λ why. IsFirstFault (lines_of bytes) why × IsMapFault why code told × Stays)

-- ---- steps

-- why a step is refused on a floor: the cells before it are no placement, or the step's first fault
abbrev pub IsStepRefusal : Floor → List ℕ → List ℕ → StepRefusal → Type 0
IsStepRefusal m from to step_refusal.NoMemory = Unit {0}
IsStepRefusal m from to step_refusal.TooMany = length m.letters < length from
IsStepRefusal m from to (step_refusal.FromBlocked r) = IsPlacementFault m from (step.OffFloor r)
IsStepRefusal m from to (step_refusal.FromShared i j) = IsPlacementFault m from (step.Vertex i j)
IsStepRefusal m from to (step_refusal.Step why) = IsPlacement m from × IsFirstStepFault m from to why

-- a step's refusal for C: its code, and the robots that it names, else 0
abbrev pub step_fault_of : StepRefusal → Fault
step_fault_of step_refusal.NoMemory = fault NO_MEMORY 0 0
step_fault_of step_refusal.TooMany = fault TOO_MANY 0 0
step_fault_of (step_refusal.FromBlocked r) = fault FROM_BLOCKED r 0
step_fault_of (step_refusal.FromShared i j) = fault FROM_SHARED i j
step_fault_of (step_refusal.Step step.Length) = fault TO_LENGTH 0 0
step_fault_of (step_refusal.Step (step.OffFloor r)) = fault OFF_FLOOR r 0
step_fault_of (step_refusal.Step (step.NotAdjacent r)) = fault NOT_ADJACENT r 0
step_fault_of (step_refusal.Step step.NoMemory) = fault NO_MEMORY 0 0
step_fault_of (step_refusal.Step (step.Vertex i j)) = fault VERTEX_CONFLICT i j
step_fault_of (step_refusal.Step (step.Swap i j)) = fault SWAPPING_CONFLICT i j

-- the step is free of conflicts, or C is told why it is refused
pub record IsStepChecked (m : Floor) (from to : List ℕ) (code : ℕ) (before told : Fault) : Type 0 where
  pub answer : Result (Unit {0}) StepRefusal
  pub free : IfOk answer (λ _. (code ≡ DONE) × (told ≡ before) × IsPlacement m from × IsConflictFree m from to)
  pub refused : IfErr answer (λ why. IsStepRefusal m from to why × (told ≡ step_fault_of why) × (code ≡ told.code))

-- ---- bridges

-- the edge stays as it was unless there is a bridge
pub record HasBridge (m : Floor) (code : ℕ) (before edge : Edge) : Type 0 where
  pub none : code ≡ NO_BRIDGE → IsBridgeless (IsNeighbour m)
  pub first : code ≡ DONE → IsFirstBridge (IsNeighbour m) edge.lower edge.upper
  pub refused : code ≢ DONE → code ≢ NO_BRIDGE → code ≡ NO_MEMORY
  pub stays : code ≢ DONE → edge ≡ before

-- ---- distances

-- a cell's distance for C
abbrev pub told_away : Option ℕ → ℕ
told_away (Some away) = away
told_away None = 4294967295

-- no distance stands for a cell from which no walk of fewer edges than that leads to the goal
abbrev pub FAR : ℕ
FAR = 4294967295

-- how far the goal is from a cell
pub record IsAway (m : Floor) (goal cell away : ℕ) : Type 0 where
  pub near : away < FAR → IsDistance (IsNeighbour m) cell goal away
  pub far : away ≡ FAR → (cs : List ℕ) → Walks (IsNeighbour m) cell cs goal → length cs < FAR → ⊥

-- the codes, in the order of their refusals; the list stays as it was unless the distances are written
pub record AreAway (m : Floor) (goal : ℕ) (before after : List ℕ) (code : ℕ) : Type 0 where
  pub wrong : (code ≡ WRONG_LENGTH) ↔ (length before ≢ length m.letters)
  pub blocked : (code ≡ GOAL_BLOCKED) ↔ ((length before ≡ length m.letters) × (IsFloor m goal → ⊥))
  pub refused : code ≢ DONE → code ≢ GOAL_BLOCKED → code ≢ WRONG_LENGTH → code ≡ NO_MEMORY
  pub counted : code ≡ DONE → length after ≡ length m.letters
  pub away : code ≡ DONE → (cell : ℕ) → cell < length m.letters → IsAway m goal cell (slice_index after cell)
  pub stays : code ≢ DONE → after ≡ before
