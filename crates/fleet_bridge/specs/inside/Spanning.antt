-- What is known of a tree that passed its check.
use Rattle.std.specs.Prelude.{ℕ, ◌<◌, length, slice_index}
use Rattle.fleet_grid.specs.Floor.{Floor, HasForm, IsNeighbour}
use Rattle.fleet_bridge.specs.inside.Tree.{IsFit, IsFitUp, IsCrossed, AreUnder}
use Rattle.fleet_bridge.specs.declared.tree.Tree.{Tree}

abbrev pub IsFitIn : {A : Type 0} → Floor → Tree A → ℕ → Type 0
IsFitIn m t c = IsFit (IsNeighbour m) (slice_index t.up.items) (slice_index t.number.items) (slice_index t.end.items) (slice_index t.top.items) c

abbrev pub IsFitUpIn : {A : Type 0} → Floor → Tree A → ℕ → Type 0
IsFitUpIn m t c = IsFitUp (IsNeighbour m) (slice_index t.up.items) (slice_index t.number.items) (slice_index t.end.items) (slice_index t.top.items) c

abbrev pub IsCrossedIn : {A : Type 0} → Floor → Tree A → ℕ → Type 0
IsCrossedIn m t v = IsCrossed (IsNeighbour m) (slice_index t.up.items) (slice_index t.number.items) (slice_index t.end.items) v

-- each cell of the map passed the check, and `low` is of the cell's subtree
pub record IsSpanning {A : Type 0} (m : Floor) (t : Tree A) : Type 0 where
  pub form : HasForm m
  pub fits : (c : ℕ) → c < length m.letters → IsFitIn m t c
  pub low : AreUnder t.up.items (length m.letters) t.low.items
