-- Placements in one list of cells: each ends where the next begins.
use Rattle.std.specs.Prelude.{◌≡◌, ℕ, ◌-◌, ◌≤◌, List, [], ◌∷◌, take, drop}

-- the placements that end at these places of the list, the first of which begins at this one
abbrev pub cut : ℕ → List ℕ → List ℕ → List (List ℕ)
cut from [] cells = []
cut from (end ∷ ends) cells = take (end - from) (drop from cells) ∷ cut end ends cells

-- the ends rise from a place to the end of a list of n cells
abbrev pub IsCut : ℕ → List ℕ → ℕ → Type 0
IsCut from [] n = from ≡ n
IsCut from (end ∷ ends) n = (from ≤ end) × (end ≤ n) × IsCut end ends n
