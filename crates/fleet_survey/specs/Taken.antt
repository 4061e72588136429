-- Cells that are taken from those that are left, one after another.
use Rattle.std.specs.Prelude.{◌≡◌, ◌≢◌, ℕ, ◌+◌, ◌<◌, Bool, true, false, List, [], ◌∷◌, ◌++◌, length, count_by, slice_index, slice_set, Option, MatchOption}
use Rattle.std.specs.List.{All, AllPairs, Any, Contains}
use Rattle.fleet_grid.specs.declared.dir.Dir.{Dir}
use Rattle.fleet_grid.specs.Floor.{Floor, IsNeighbour, IsNeighbourIn}
use Rattle.fleet_grid.specs.Walk.{AreJoined}
use Rattle.fleet_roomy.specs.Unroomy.{has}
use Rattle.fleet_survey.specs.declared.ends.DeadEnd.{DeadEnd}
use Rattle.fleet_survey.specs.DeadEnds.{HasCell, IsDeadEnd, IsFree, IsMarked}

-- a step to a cell that was left
abbrev pub LeadsTo : Floor → List Bool → ℕ → ℕ → Type 0
LeadsTo m before a b = IsNeighbour m a b × (has before b ≡ true)

-- cells that were left are taken, each once; walks over such cells join them to the first
pub record AreTaken (m : Floor) (first : ℕ) (before left : List Bool) (cells : List ℕ) : Type 0 where
  pub left_were : (c : ℕ) → has left c ≡ true → (has before c ≡ true) × (Contains cells c → ⊥)
  pub gone : (c : ℕ) → has before c ≡ true → has left c ≡ false → Contains cells c
  pub were : (c : ℕ) → Contains cells c → (has before c ≡ true) × AreJoined (LeadsTo m before) first c
  pub once : AllPairs (λ a b. a ≢ b) cells
  pub count : count_by (λ b. b) left + length cells ≡ count_by (λ b. b) before

-- the cell is taken, if it is left
pub record IsTaken (cell : ℕ) (had left : List Bool) (old cells : List ℕ) : Type 0 where
  pub there : has had cell ≡ true → (left ≡ slice_set had cell false) × (cells ≡ old ++ cell ∷ [])
  pub gone : has had cell ≡ false → (left ≡ had) × (cells ≡ old)

-- cells next to one that was taken are taken: all that are taken now are as before
pub record Takes (m : Floor) (cell : ℕ) (had left : List Bool) (old cells : List ℕ) : Type 0 where
  pub keeps : (first : ℕ) (before : List Bool) → AreTaken m first before had old → Contains old cell → AreTaken m first before left cells
  pub less : (d : ℕ) → has left d ≡ true → has had d ≡ true
  pub more : List ℕ
  pub front : cells ≡ old ++ more

-- the cell next to it in that direction is not left then
pub record TakesIn (m : Floor) (dir : Dir) (cell : ℕ) (had left : List Bool) (old cells : List ℕ) : Type 0 where
  pub takes : Takes m cell had left old cells
  pub none : (d : ℕ) → IsNeighbourIn m dir cell d → has left d ≡ false

-- no cell next to it is left then
pub record TakesAround (m : Floor) (cell : ℕ) (had left : List Bool) (old cells : List ℕ) : Type 0 where
  pub takes : Takes m cell had left old cells
  pub none : (d : ℕ) → IsNeighbour m cell d → has left d ≡ false

-- all cells are taken that walks over cells that were left join to the first, which stands first
pub record AreAllTaken (m : Floor) (first : ℕ) (before left : List Bool) (cells : List ℕ) : Type 0 where
  pub taken : AreTaken m first before left cells
  pub first_is : has before first ≡ true → (0 < length cells) × (slice_index cells 0 ≡ first)
  pub closed : (c d : ℕ) → Contains cells c → IsNeighbour m c d → has left d ≡ false

-- a cell with this property, if there is one
abbrev pub IsFound : (ℕ → Type 0) → Option ℕ → Type 0
IsFound Is found = MatchOption found ((d : ℕ) → Is d → ⊥) Is

-- ---- dead ends that were found

-- the marked cells are left, or in one of the dead ends
pub record AreFound (m : Floor) (marks left : List Bool) (ends : List DeadEnd) : Type 0 where
  pub off : (c : ℕ) → has left c ≡ true → IsMarked marks c × (Any (HasCell c) ends → ⊥)
  pub found : (c : ℕ) → IsMarked marks c → has left c ≡ false → Any (HasCell c) ends
  pub closed : (a b : ℕ) → IsNeighbour m a b → has left a ≡ true → IsMarked marks b → has left b ≡ true
  pub each : All (IsDeadEnd m (IsMarked marks) (IsFree m marks)) ends
  pub apart : AllPairs (λ d e. (c : ℕ) → HasCell c d → HasCell c e → ⊥) ends
