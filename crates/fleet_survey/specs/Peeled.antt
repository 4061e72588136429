-- Marks that are taken from cells which no map that is fit for two robots has.
use Rattle.std.specs.Prelude.{◌≡◌, ℕ, ◌≤◌, Bool, true, List, length, Option, None, Some, MatchOption}
use Rattle.fleet_grid.specs.declared.dir.Dir.{Dir}
use Rattle.fleet_grid.specs.Floor.{Floor, IsFloor, IsNeighbour, IsNeighbourIn}
use Rattle.fleet_roomy.specs.Unroomy.{has}
use Rattle.fleet_survey.specs.Pruned.{IsFit, IsWithin}
use Rattle.fleet_survey.specs.declared.around.Around.{Around}
use Rattle.fleet_survey.specs.declared.around.Around.TheVariants.{Nobody, One, More}

-- the marked cell next to a cell in that direction
abbrev pub SaysAt : Floor → List Bool → ℕ → Dir → Option ℕ → Type 0
SaysAt m marks cell dir next = MatchOption next
    ((d : ℕ) → IsNeighbourIn m dir cell d → has marks d ≡ true → ⊥)
    (λ x. (d : ℕ) → IsNeighbourIn m dir cell d → has marks d ≡ true → d ≡ x)

-- which numbers there are: none, no other than this one, or any
abbrev pub Says : (ℕ → Type 0) → Around → Type 0
Says There Nobody = (d : ℕ) → There d → ⊥
Says There (One x) = (d : ℕ) → There d → d ≡ x
Says There More = Unit {0}

-- the marked cells next to a cell
abbrev pub SaysAround : Floor → List Bool → ℕ → Around → Type 0
SaysAround m marks cell found = Says (λ d. IsNeighbour m cell d × (has marks d ≡ true)) found

-- the cells that were found before, and perhaps one more
abbrev pub with_next : Around → Option ℕ → Around
with_next found None = found
with_next Nobody (Some next) = One next
with_next (One x) (Some next) = More
with_next More (Some next) = More

-- each floor cell of the map is marked
abbrev pub Covers : Floor → List Bool → Type 0
Covers s marks = (c : ℕ) → IsFloor s c → has marks c ≡ true

-- some marks were taken away, from no cell of a map that is fit for two robots or more and was marked
pub record IsPeeled (m : Floor) (before after : List Bool) : Type 0 where
  pub size : length after ≡ length before
  pub less : (c : ℕ) → has after c ≡ true → has before c ≡ true
  pub fit : (n : ℕ) (s : Floor) → 2 ≤ n → IsFit n s → IsWithin s m → Covers s before → Covers s after

-- some marks were taken away, from no cell of a map that is fit for n robots and was marked
pub record IsPeeledFor (n : ℕ) (m : Floor) (before after : List Bool) : Type 0 where
  pub size : length after ≡ length before
  pub less : (c : ℕ) → has after c ≡ true → has before c ≡ true
  pub fit : (s : Floor) → IsFit n s → IsWithin s m → Covers s before → Covers s after
