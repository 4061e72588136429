-- A tree whose roots lie in the cores of their parts: what a check of each cell's room shows.
use Rattle.std.specs.Prelude.{◌≡◌, ◌≢◌, ℕ, ◌+◌, ◌-◌, ◌<◌, ◌≤◌, ◌⊎◌, ◌==◌, cond, slice_index}
use Rattle.fleet_grid.specs.Floor.{Floor, IsFloor, IsNeighbour}
use Rattle.fleet_bridge.specs.inside.Tree.{IsCrossed}
use Rattle.fleet_bridge.specs.inside.Preorder.{IsHung, subtree_size}
use Rattle.fleet_bridge.specs.declared.layout.Layout.{Layout}
use Rattle.fleet_bridge.specs.declared.rooms.Rooms.{Rooms}
use Rattle.fleet_bridge.specs.declared.tree.Tree.{Tree}

-- the size of a subtree that hangs from a block, where the block's own topmost cell stands for none
abbrev pub side_size : (number end : ℕ → ℕ) → (block cell : ℕ) → ℕ
side_size number end block cell = cond (cell == block) 0 (subtree_size number end cell)

-- a subtree that hangs in the part of a root
pub record IsHungFrom (Cell : ℕ → Type 0) (up number far top : ℕ → ℕ) (root v : ℕ) : Type 0 where
  pub cell : Cell v
  pub hung : IsHung up number far v
  pub under : top v ≡ root

-- the capacity of a root is all of its part but two subtrees apart that hang, where there are two, or but one, or all
pub record IsBesideTwo (Cell : ℕ → Type 0) (up number end far top : ℕ → ℕ) (root n v w : ℕ) : Type 0 where
  pub one : IsHungFrom Cell up number far top root v
  pub two : IsHungFrom Cell up number far top root w
  pub apart : (end v ≤ number w) ⊎ (end w ≤ number v)
  pub rest : n + subtree_size number end v + subtree_size number end w ≡ subtree_size number end root

pub record IsBesideOne (Cell : ℕ → Type 0) (up number end far top : ℕ → ℕ) (root n v : ℕ) : Type 0 where
  pub one : IsHungFrom Cell up number far top root v
  pub rest : n + subtree_size number end v ≡ subtree_size number end root

abbrev pub IsCounted : (Cell : ℕ → Type 0) → (up number end far top : ℕ → ℕ) → (root n : ℕ) → Type 0
IsCounted Cell up number end far top root n =
    (n ≡ subtree_size number end root)
    ⊎ (((v : ℕ) × IsBesideOne Cell up number end far top root n v) ⊎ ((v : ℕ) × (w : ℕ) × IsBesideTwo Cell up number end far top root n v w))

-- a subtree that hangs has no more than n cells, or no more but for another one inside it that hangs
pub record IsLessBut (Cell : ℕ → Type 0) (up number end far : ℕ → ℕ) (n v w : ℕ) : Type 0 where
  pub cell : Cell w
  pub hung : IsHung up number far w
  pub after : number v < number w
  pub before : number w < end v
  pub few : subtree_size number end v - subtree_size number end w ≤ n

abbrev pub IsLesser : (Cell : ℕ → Type 0) → (up number end far : ℕ → ℕ) → (n v : ℕ) → Type 0
IsLesser Cell up number end far n v = (subtree_size number end v ≤ n) ⊎ ((w : ℕ) × IsLessBut Cell up number end far n v w)

-- What a check of one cell's room shows. `door` is the outermost subtree that hangs and has the cell, or the root where none has; `first` and `second` are the two
-- greatest of these by the root, and `most` is the capacity by the root.
pub record IsHoused (Near : ℕ → ℕ → Type 0) (Cell : ℕ → Type 0) (up number end far top door first second most : ℕ → ℕ) (c : ℕ) : Type 0 where
  pub root : up c ≡ c → door c ≡ c
  pub counted : up c ≡ c → IsCounted Cell up number end far top c (most c)
  pub fits : up c ≡ c → most c + side_size number end c (first c) + side_size number end c (second c) ≤ subtree_size number end c
  pub crossed : up c ≢ c → far c < number c → IsCrossed Near up number end c
  pub within : up c ≢ c → door (up c) ≢ top c → door c ≡ door (up c)
  pub opens : IsHung up number far c → door (up c) ≡ top c → door c ≡ c
  pub core : up c ≢ c → far c < number c → door (up c) ≡ top c → door c ≡ top c
  pub one : IsHung up number far c → door c ≡ c → subtree_size number end c ≤ side_size number end (top c) (first (top c))
  pub two : IsHung up number far c → door c ≡ c → (c ≡ first (top c)) ⊎ (subtree_size number end c ≤ side_size number end (top c) (second (top c)))
  pub lesser : IsHung up number far c → IsLesser Cell up number end far (most (top c)) c

abbrev pub IsCountedIn : {A : Type 0} → Floor → Tree A → ℕ → ℕ → Type 0
IsCountedIn m t = IsCounted (IsFloor m) (slice_index t.up.items) (slice_index t.number.items) (slice_index t.end.items) (slice_index t.far.items) (slice_index t.top.items)

abbrev pub IsHungFromIn : {A : Type 0} → Floor → Tree A → ℕ → ℕ → Type 0
IsHungFromIn m t = IsHungFrom (IsFloor m) (slice_index t.up.items) (slice_index t.number.items) (slice_index t.far.items) (slice_index t.top.items)

abbrev pub IsLesserIn : {A : Type 0} → Floor → Tree A → ℕ → ℕ → Type 0
IsLesserIn m t = IsLesser (IsFloor m) (slice_index t.up.items) (slice_index t.number.items) (slice_index t.end.items) (slice_index t.far.items)

abbrev pub IsHousedIn : {A : Type 0} → Floor → Tree A → Layout A → ℕ → Type 0
IsHousedIn m t l = IsHoused (IsNeighbour m) (IsFloor m) (slice_index t.up.items) (slice_index t.number.items) (slice_index t.end.items) (slice_index t.far.items) (slice_index t.top.items) (slice_index l.door.items) (slice_index l.first.items) (slice_index l.second.items) (slice_index l.most.items)

-- the lists of a tree and its layout, as rooms
pub record AreTold {A : Type 0} (t : Tree A) (l : Layout A) (count : ℕ) (rooms : Rooms A) : Type 0 where
  pub core : rooms.core.items ≡ t.top.items
  pub door : rooms.door.items ≡ l.door.items
  pub mouth : rooms.mouth.items ≡ t.up.items
  pub capacity : rooms.capacity.items ≡ l.most.items
  pub size : (c : ℕ) → c < count → slice_index rooms.size.items c ≡ subtree_size (slice_index t.number.items) (slice_index t.end.items) c
