-- All bridges of a relation of cells, as a list of pairs.
use Rattle.std.specs.Prelude.{◌≡◌, ℕ, ◌<◌, ◌⊎◌, ◌↔◌, List}
use Rattle.std.specs.List.{AllPairs, Contains}
use Rattle.fleet_grid.specs.Walk.{IsBridge}

-- the first pair comes before the second, by lower cell and then by upper cell
abbrev pub IsEarlier : ℕ × ℕ → ℕ × ℕ → Type 0
IsEarlier e f = (e.0 < f.0) ⊎ ((e.0 ≡ f.0) × (e.1 < f.1))

-- the list has each bridge once, its lower cell first, by lower cell and then by upper cell
pub record AreBridges (Near : ℕ → ℕ → Type 0) (list : List (ℕ × ℕ)) : Type 0 where
  pub each : (a b : ℕ) → Contains list (a, b) ↔ ((a < b) × IsBridge Near a b)
  pub order : AllPairs IsEarlier list
