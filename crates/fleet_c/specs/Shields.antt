-- What the calls on a shield answer C.
use Rattle.std.specs.Prelude.{ℕ, ◌≡◌, ◌<◌, List, Option, None, Some, Result, IfOk, IfErr, length, slice_index}
use Rattle.fleet_grid.specs.Floor.{Floor}
use Rattle.fleet_grid.specs.Step.{IsConflictFree}
use Rattle.fleet_shield.specs.Size.{Size}
use Rattle.fleet_shield.specs.Wishes.{Wishes, robots, AreSound}
use Rattle.fleet_shield.specs.Fault.{Fits, IsRefusal}
use Rattle.fleet_shield.specs.Shielded.{KeepToPreferences, GetBestLeft, GetsFirst}
use Rattle.fleet_shield.specs.declared.refusal.Refusal.{Refusal}
use Rattle.fleet_shield.specs.declared.refusal.Refusal.TheVariants as refusal
use Rattle.fleet_c.specs.Opening.{fault}
use Rattle.fleet_c.specs.OwnsMap.{HeldValue as HeldMap}
use Rattle.fleet_c.specs.OwnsShield.{HeldValue as HeldShield}
use Rattle.fleet_c.specs.declared.codes.TheConstants.{DONE, NO_MEMORY, NOT_OPEN, SHIELD_MAP, SHIELD_LENGTH, SHIELD_OUTSIDE, SHIELD_WALL, SHIELD_SHARED, SHIELD_UNKNOWN, SHIELD_TWICE, SHIELD_FAR}
use Rattle.fleet_c.specs.declared.fault.Fault.{Fault}

-- ---- handles

-- if a handle is closed, the call is refused and nothing is written; else this is said of the shield and the floor
abbrev pub OnShield : Option HeldShield → Option HeldMap → ℕ → Type 0 → (Size → Floor → Type 0) → Type 0
OnShield None map code Stays Says = (code ≡ NOT_OPEN) × Stays
OnShield (Some s) None code Stays Says = (code ≡ NOT_OPEN) × Stays
OnShield (Some s) (Some m) code Stays Says = Says s m

-- ---- openings

-- how many cells the map of an open handle has
abbrev pub HasCells : Option HeldMap → Option ℕ → Type 0
HasCells None cells = cells ≡ None
HasCells (Some m) cells = cells ≡ Some (length m.letters)

-- the shield is made for the map's cells and this many robots
abbrev pub IsMadeFor : Option HeldMap → ℕ → Option HeldShield → Type 0
IsMadeFor None n made = ⊥
IsMadeFor (Some m) n made = made ≡ Some (record { cells = length m.letters; robots = n })

-- C is told why none is made
abbrev pub IsUnmade : Option HeldMap → ℕ → Type 0
IsUnmade None code = code ≡ NOT_OPEN
IsUnmade (Some m) code = code ≡ NO_MEMORY

-- ---- steps

-- what is said of a step that was made, to these cells
pub record IsShielded (m : Floor) (order : List ℕ) (w : Wishes) (to : List ℕ) : Type 0 where
  pub sound : AreSound m order w
  pub conflict_free : IsConflictFree m w.from to
  pub preferred : KeepToPreferences w to
  pub first : 0 < robots w → GetsFirst m w to (slice_index order 0)
  pub best_left : GetBestLeft w to

-- a refusal for C: its code, and the robots and places that it names, else 0
abbrev pub shield_fault_of : Refusal → Fault
shield_fault_of refusal.Map = fault SHIELD_MAP 0 0
shield_fault_of refusal.Length = fault SHIELD_LENGTH 0 0
shield_fault_of (refusal.Outside r) = fault SHIELD_OUTSIDE r 0
shield_fault_of (refusal.Wall r) = fault SHIELD_WALL r 0
shield_fault_of (refusal.Shared q r) = fault SHIELD_SHARED q r
shield_fault_of (refusal.Unknown k) = fault SHIELD_UNKNOWN k 0
shield_fault_of (refusal.Twice k) = fault SHIELD_TWICE k 0
shield_fault_of (refusal.Far r k) = fault SHIELD_FAR r k

-- a step was made, or C is told the first fault of what was asked, and nothing is written
pub record IsStepped (size : Size) (m : Floor) (order : List ℕ) (w : Wishes) (before after : List ℕ) (code : ℕ) (had told : Fault) : Type 0 where
  pub answer : Result (Unit {0}) Refusal
  pub made : IfOk answer (λ _. (code ≡ DONE) × (told ≡ had) × Fits m order w (length before) size × IsShielded m order w after)
  pub refused : IfErr answer (λ why. IsRefusal m order w (length before) size why × (told ≡ shield_fault_of why) × (code ≡ told.code) × (after ≡ before))
  pub moves : Fits m order w (length before) size → AreSound m order w → code ≡ DONE
