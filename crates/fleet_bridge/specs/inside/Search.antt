-- A search from a cell along a relation: the cells that it marked, and the queue of these in the order in which it marked them.
use Rattle.std.specs.Prelude.{◌≡◌, ℕ, ◌<◌, ◌≤◌, Bool, true, false, List, length, slice_index, slice_index_or, count_by}
use Rattle.fleet_grid.specs.Floor.{Floor, IsNeighbour}
use Rattle.fleet_grid.specs.Walk.{Besides, AreJoined}

-- the edges of a map without one of them
abbrev pub NearWithout : Floor → ℕ → ℕ → ℕ → ℕ → Type 0
NearWithout m a b = Besides (IsNeighbour m) a b

abbrev pub IsMarked : List Bool → ℕ → Type 0
IsMarked seen c = slice_index_or seen c false ≡ true

-- the queue has each marked cell once, and all of them are joined to `a`
pub record IsFront (R : ℕ → ℕ → Type 0) (a n : ℕ) (seen : List Bool) (queue : List ℕ) : Type 0 where
  pub size : length seen ≡ n
  pub count : length queue ≡ count_by (λ s. s) seen
  pub marked : (i : ℕ) → i < length queue → IsMarked seen (slice_index queue i)
  pub queued : (c : ℕ) → IsMarked seen c → (i : ℕ) × (i < length queue) × (slice_index queue i ≡ c)
  pub joined : (c : ℕ) → IsMarked seen c → AreJoined R a c

-- a later state of the same search
pub record IsLater (seen : List Bool) (queue : List ℕ) (seen' : List Bool) (queue' : List ℕ) : Type 0 where
  pub keeps : (c : ℕ) → IsMarked seen c → IsMarked seen' c
  pub grows : length queue ≤ length queue'
  pub same : (i : ℕ) → i < length queue → slice_index queue' i ≡ slice_index queue i

-- the marked cells are those that a walk from `a` reaches
pub record IsReach (R : ℕ → ℕ → Type 0) (a : ℕ) (seen : List Bool) : Type 0 where
  pub start : IsMarked seen a
  pub closed : (c d : ℕ) → R c d → IsMarked seen c → IsMarked seen d
  pub joined : (c : ℕ) → IsMarked seen c → AreJoined R a c
