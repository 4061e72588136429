-- Dead ends: cells that hang together, and the cell next to them that is their mouth.
use Rattle.std.specs.Prelude.{◌≡◌, ◌≢◌, ◌↔◌, ℕ, ◌<◌, Bool, true, false, List, length, Option, None, Some, slice_index}
use Rattle.std.specs.List.{All, AllPairs, Any, Contains}
use Rattle.fleet_grid.specs.Floor.{Floor, IsFloor, IsNeighbour}
use Rattle.fleet_grid.specs.Walk.{AreJoined}
use Rattle.fleet_roomy.specs.Unroomy.{has}
use Rattle.fleet_survey.specs.declared.ends.DeadEnd.{DeadEnd}

-- an edge between two cells of a set
abbrev pub HangsBy : Floor → (ℕ → Type 0) → ℕ → ℕ → Type 0
HangsBy m In a b = IsNeighbour m a b × In a × In b

-- the cell is of the other set and next to one of the cells; without it there is none
abbrev pub IsMouth : Floor → (ℕ → Type 0) → List ℕ → Option ℕ → Type 0
IsMouth m Out cells None = (c d : ℕ) → Contains cells c → IsNeighbour m c d → Out d → ⊥
IsMouth m Out cells (Some mouth) = Out mouth × ((c : ℕ) × Contains cells c × IsNeighbour m c mouth)

-- all cells of a set that walks within the set join to the first one, each once, and their mouth, which is of another set
pub record IsDeadEnd (m : Floor) (In Out : ℕ → Type 0) (e : DeadEnd) : Type 0 where
  pub some : 0 < length e.cells.items
  pub cells : (c : ℕ) → Contains e.cells.items c ↔ (In c × AreJoined (HangsBy m In) (slice_index e.cells.items 0) c)
  pub once : AllPairs (λ a b. a ≢ b) e.cells.items
  pub mouth : IsMouth m Out e.cells.items e.mouth

-- the cell is one of the dead end
abbrev pub HasCell : ℕ → DeadEnd → Type 0
HasCell c e = Contains e.cells.items c

-- the dead ends of a set: each of its cells is in one of them
pub record AreDeadEnds (m : Floor) (In Out : ℕ → Type 0) (ends : List DeadEnd) : Type 0 where
  pub each : All (IsDeadEnd m In Out) ends
  pub all : (c : ℕ) → In c → Any (HasCell c) ends
  pub apart : AllPairs (λ d e. (c : ℕ) → HasCell c d → HasCell c e → ⊥) ends

-- ---- by marks

-- the cell is marked
abbrev pub IsMarked : List Bool → ℕ → Type 0
IsMarked marks c = has marks c ≡ true

-- floor, and not marked
abbrev pub IsFree : Floor → List Bool → ℕ → Type 0
IsFree m marks c = IsFloor m c × (has marks c ≡ false)
