-- The list of all bridges on the way: those that are done.
use Rattle.std.specs.Prelude.{ℕ, ◌<◌, List, [], ◌∷◌, Option, Some, None}
use Rattle.std.specs.List.{AllPairs, Contains}
use Rattle.fleet_grid.specs.Walk.{IsBridge}
use Rattle.fleet_bridge.specs.Bridges.{IsEarlier}

-- the list has the bridges that are done, in order
pub record AreListed (Near Done : ℕ → ℕ → Type 0) (list : List (ℕ × ℕ)) : Type 0 where
  pub only : (e : ℕ × ℕ) → Contains list e → (e.0 < e.1) × IsBridge Near e.0 e.1 × Done e.0 e.1
  pub all : (a b : ℕ) → a < b → IsBridge Near a b → Done a b → Contains list (a, b)
  pub order : AllPairs IsEarlier list

-- bridges whose lower cell is below n
abbrev pub AreListedBelow : (ℕ → ℕ → Type 0) → ℕ → List (ℕ × ℕ) → Type 0
AreListedBelow Near n = AreListed Near (λ a b. a < n)

-- the pair of a cell and the other end that was found, if one was
abbrev pub pair_if : ℕ → Option ℕ → List (ℕ × ℕ)
pair_if cell None = []
pair_if cell (Some b) = (cell, b) ∷ []
