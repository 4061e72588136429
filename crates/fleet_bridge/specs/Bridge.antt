-- The first bridge of a relation of cells.
use Rattle.std.specs.Prelude.{◌≡◌, ℕ, ◌<◌, ◌≤◌, ◌⊎◌}
use Rattle.fleet_grid.specs.Walk.{IsBridge}

-- the first edge comes no later than the second, by lower cell and then by upper cell
abbrev pub IsNoLater : ℕ → ℕ → ℕ → ℕ → Type 0
IsNoLater a b c d = (a < c) ⊎ ((a ≡ c) × (b ≤ d))

-- the bridge of least lower cell, then least upper cell
pub record IsFirstBridge (Near : ℕ → ℕ → Type 0) (a b : ℕ) : Type 0 where
  pub lower : a < b
  pub bridge : IsBridge Near a b
  pub first : (c d : ℕ) → c < d → IsBridge Near c d → IsNoLater a b c d
