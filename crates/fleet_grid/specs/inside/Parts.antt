-- Labels of the parts of a floor, and how a search spreads one label over a part.
use Rattle.std.specs.Prelude.{◌≡◌, ◌≢◌, ℕ, ◌+◌, ◌<◌, ◌≤◌, ◌⊎◌, List, length, slice_index, cond, nat_eq}
use Rattle.std.specs.List.{sum_by}
use Rattle.fleet_grid.specs.Floor.{Floor, IsFloor, IsNeighbour}
use Rattle.fleet_grid.specs.Walk.{AreJoined}

-- two floor cells have one label exactly where a walk joins them: each is joined to the cell that it is labelled with
pub record AreParts (m : Floor) (labels : List ℕ) : Type 0 where
  pub len : length labels ≡ length m.letters
  pub joined : (c : ℕ) → IsFloor m c → AreJoined (IsNeighbour m) c (slice_index labels c)
  pub same : (a b : ℕ) → IsNeighbour m a b → slice_index labels a ≡ slice_index labels b

-- a cell that has a label; 4294967295 is none
abbrev pub HasLabel : List ℕ → ℕ → Type 0
HasLabel labels c = (c < length labels) × (slice_index labels c ≢ 4294967295)

abbrev pub is_bare : ℕ → ℕ
is_bare label = cond (nat_eq label 4294967295) 1 0

-- how many cells have no label
abbrev pub bare_count : List ℕ → ℕ
bare_count labels = sum_by is_bare labels

-- the queue has the cell, from a place on
abbrev pub Awaits : List ℕ → ℕ → ℕ → Type 0
Awaits queue head c = (i : ℕ) × (head ≤ i) × (i < length queue) × (slice_index queue i ≡ c)

-- The search so far. All labels are right, and each labelled cell is alike to its neighbours, or waits in the queue from `head` on.
pub record IsSpread (m : Floor) (label head : ℕ) (labels queue : List ℕ) : Type 0 where
  pub len : length labels ≡ length m.letters
  pub within : head ≤ length queue
  pub on_floor : (c : ℕ) → HasLabel labels c → IsFloor m c
  pub joined : (c : ℕ) → HasLabel labels c → AreJoined (IsNeighbour m) c (slice_index labels c)
  pub queued : (i : ℕ) → i < length queue → (slice_index queue i < length labels) × (slice_index labels (slice_index queue i) ≡ label)
  pub closed : (a b : ℕ) → IsNeighbour m a b → HasLabel labels a → (slice_index labels b ≡ slice_index labels a) ⊎ Awaits queue head a

-- the search went on: labels that are there stay, the queue grows at its end, by each cell that got its label
pub record Spreads (m : Floor) (label head : ℕ) (old queue new queue' : List ℕ) : Type 0 where
  pub spread : IsSpread m label head new queue'
  pub kept : (c : ℕ) → HasLabel old c → slice_index new c ≡ slice_index old c
  pub older : (i : ℕ) → i < length queue → slice_index queue' i ≡ slice_index queue i
  pub longer : length queue ≤ length queue'
  pub count : length queue' + bare_count new ≡ length queue + bare_count old

-- All labels are right, and each labelled cell is alike to its neighbours.
pub record AreDone (m : Floor) (labels : List ℕ) : Type 0 where
  pub len : length labels ≡ length m.letters
  pub on_floor : (c : ℕ) → HasLabel labels c → IsFloor m c
  pub joined : (c : ℕ) → HasLabel labels c → AreJoined (IsNeighbour m) c (slice_index labels c)
  pub closed : (a b : ℕ) → IsNeighbour m a b → HasLabel labels a → slice_index labels b ≡ slice_index labels a
