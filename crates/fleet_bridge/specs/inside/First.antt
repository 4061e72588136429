-- What the search for the first bridge has come to.
use Rattle.std.specs.Prelude.{ℕ, ◌<◌, ◌≤◌}
use Rattle.fleet_grid.specs.Floor.{Floor, IsNeighbour, IsNeighbourIn}
use Rattle.fleet_grid.specs.declared.dir.Dir.{Dir}
use Rattle.fleet_grid.specs.Walk.{IsBridge}

-- no bridge lies in that direction
abbrev pub HasNoneBeside : Floor → ℕ → Dir → Type 0
HasNoneBeside m cell dir = (b : ℕ) → IsNeighbourIn m dir cell b → IsBridge (IsNeighbour m) cell b → ⊥

-- the bridge in that direction
abbrev pub IsBeside : Floor → ℕ → Dir → ℕ → Type 0
IsBeside m cell dir b = (IsNeighbourIn m dir cell b) × IsBridge (IsNeighbour m) cell b

-- no bridge has the cell as its lower end
abbrev pub HasNone : Floor → ℕ → Type 0
HasNone m cell = (d : ℕ) → cell < d → IsBridge (IsNeighbour m) cell d → ⊥

-- the first bridge with the cell as its lower end
pub record IsFirstFrom (m : Floor) (cell b : ℕ) : Type 0 where
  pub lower : cell < b
  pub bridge : IsBridge (IsNeighbour m) cell b
  pub first : (d : ℕ) → cell < d → IsBridge (IsNeighbour m) cell d → b ≤ d

-- no bridge has one of the first n cells as its lower end
abbrev pub HasNoneBelow : Floor → ℕ → Type 0
HasNoneBelow m n = (c : ℕ) → c < n → HasNone m c
