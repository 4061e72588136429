-- A tree whose cells are numbered by a walk through it: what a check of each cell shows, and which subtrees hang by a bridge.
use Rattle.std.specs.Prelude.{◌≡◌, ◌≢◌, ℕ, ◌+◌, ◌-◌, ◌<◌, ◌≤◌, ◌⊎◌, length, slice_index}
use Rattle.fleet_grid.specs.Floor.{Floor, IsFloor, IsNeighbour}
use Rattle.fleet_bridge.specs.inside.Spanning.{IsSpanning}
use Rattle.fleet_bridge.specs.inside.Tree.{IsCrossed}
use Rattle.fleet_bridge.specs.declared.tree.Tree.{Tree}

-- an edge off the tree leads to no number below `far` of its end, and to none after its end's subtree
abbrev pub IsHeld : (up number end far : ℕ → ℕ) → (c d : ℕ) → Type 0
IsHeld up number end far c d = up c ≢ d → up d ≢ c → (far c ≤ number d) × (number d < end c)

-- What a check of one cell shows: the cell is at its number's place in the order, its first child comes next there, and its next sibling after its subtree; `far` of
-- the parent is no greater than that of the cell.
pub record IsWhole (Near : ℕ → ℕ → Type 0) (up number end far order : ℕ → ℕ) (count c : ℕ) : Type 0 where
  pub here : order (number c) ≡ c
  pub last : end c ≤ count
  pub child : number c + 1 < end c → up (order (number c + 1)) ≡ c
  pub next : up c ≢ c → end c < end (up c) → up (order (end c)) ≡ up c
  pub held : (d : ℕ) → Near c d → IsHeld up number end far c d
  pub hands : far (up c) ≤ far c

-- what is at each place of the order is a cell with that number
abbrev pub IsListed : (ℕ → Type 0) → (number order : ℕ → ℕ) → ℕ → Type 0
IsListed Cell number order k = Cell (order k) × (number (order k) ≡ k)

-- no edge but the one to the parent leaves the subtree
pub record IsHung (up number far : ℕ → ℕ) (c : ℕ) : Type 0 where
  pub child : up c ≢ c
  pub held : number c ≤ far c

-- how many cells a subtree has
abbrev pub subtree_size : (number end : ℕ → ℕ) → ℕ → ℕ
subtree_size number end c = end c - number c

-- a subtree that hangs from the part of `top`, and all but whose size is `n`
pub record IsLightened (Cell : ℕ → Type 0) (up number end far top : ℕ → ℕ) (root n w : ℕ) : Type 0 where
  pub cell : Cell w
  pub hung : IsHung up number far w
  pub under : top w ≡ root
  pub rest : n ≡ subtree_size number end root - subtree_size number end w

-- a root has no limit, or the size of all but some subtree that hangs
abbrev pub IsRooted : (Cell : ℕ → Type 0) → (up number end far top most : ℕ → ℕ) → ℕ → Type 0
IsRooted Cell up number end far top most c = (most c ≡ 4294967295) ⊎ ((w : ℕ) × IsLightened Cell up number end far top c (most c) w)

-- What a check of one cell's number of robots shows: where its subtree hangs, it is that subtree's size, which is at most half of its part's, and all else of the part
-- is no less than the number of the top; where it does not hang, it is the parent's number; a top has the size of all else of some subtree, or no limit.
pub record IsSettled (Near : ℕ → ℕ → Type 0) (Cell : ℕ → Type 0) (up number end far top most : ℕ → ℕ) (c : ℕ) : Type 0 where
  pub root : up c ≡ c → IsRooted Cell up number end far top most c
  pub hung : IsHung up number far c → most c ≡ subtree_size number end c
  pub half : IsHung up number far c → subtree_size number end c + subtree_size number end c ≤ subtree_size number end (top c)
  pub rest : IsHung up number far c → most (top c) ≤ subtree_size number end (top c) - subtree_size number end c
  pub same : up c ≢ c → far c < number c → most c ≡ most (up c)
  pub crossed : up c ≢ c → far c < number c → IsCrossed Near up number end c

abbrev pub IsHeldIn : {A : Type 0} → Tree A → ℕ → ℕ → Type 0
IsHeldIn t = IsHeld (slice_index t.up.items) (slice_index t.number.items) (slice_index t.end.items) (slice_index t.far.items)

abbrev pub IsWholeIn : {A : Type 0} → Floor → Tree A → ℕ → Type 0
IsWholeIn m t = IsWhole (IsNeighbour m) (slice_index t.up.items) (slice_index t.number.items) (slice_index t.end.items) (slice_index t.far.items) (slice_index t.order.items) (length t.order.items)

abbrev pub IsListedIn : {A : Type 0} → Floor → Tree A → ℕ → Type 0
IsListedIn m t = IsListed (IsFloor m) (slice_index t.number.items) (slice_index t.order.items)

abbrev pub IsHungIn : {A : Type 0} → Tree A → ℕ → Type 0
IsHungIn t = IsHung (slice_index t.up.items) (slice_index t.number.items) (slice_index t.far.items)

abbrev pub IsRootedIn : {A : Type 0} → Floor → Tree A → (ℕ → ℕ) → ℕ → Type 0
IsRootedIn m t = IsRooted (IsFloor m) (slice_index t.up.items) (slice_index t.number.items) (slice_index t.end.items) (slice_index t.far.items) (slice_index t.top.items)

abbrev pub IsSettledIn : {A : Type 0} → Floor → Tree A → (ℕ → ℕ) → ℕ → Type 0
IsSettledIn m t most = IsSettled (IsNeighbour m) (IsFloor m) (slice_index t.up.items) (slice_index t.number.items) (slice_index t.end.items) (slice_index t.far.items) (slice_index t.top.items) most

-- each floor cell and each place passed the check
pub record IsWalk {A : Type 0} (m : Floor) (t : Tree A) : Type 0 where
  pub whole : (c : ℕ) → IsFloor m c → IsWholeIn m t c
  pub listed : (k : ℕ) → k < length t.order.items → IsListedIn m t k

-- and the tree spans the map
pub record IsWalked {A : Type 0} (m : Floor) (t : Tree A) : Type 0 where
  pub spanning : IsSpanning m t
  pub walk : IsWalk m t
