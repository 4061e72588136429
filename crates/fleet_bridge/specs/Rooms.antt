-- Rooms: the sides of the bridges around one block of each part of a map, its core; and for how many robots all cells are served by them.
use Rattle.std.specs.Prelude.{◌≡◌, ◌≢◌, ℕ, ◌<◌, ◌≤◌, ◌⊎◌, ◌↔◌, List, length, slice_index}
use Rattle.fleet_grid.specs.Floor.{Floor, IsFloor, IsNeighbour}
use Rattle.fleet_grid.specs.Walk.{AreJoined, IsBridge, IsOnSide, HasSide, IsRoomy}
use Rattle.fleet_bridge.specs.declared.rooms.Rooms.{Rooms}

-- an edge that is no bridge
pub record IsLink (Near : ℕ → ℕ → Type 0) (x y : ℕ) : Type 0 where
  pub near : Near x y
  pub other : IsBridge Near x y → ⊥

-- both cells are of one block: a walk joins them that crosses no bridge
abbrev pub AreInBlock : (ℕ → ℕ → Type 0) → ℕ → ℕ → Type 0
AreInBlock Near = AreJoined (IsLink Near)

-- the part of the cell has n cells or more
pub record HasPart (Near : ℕ → ℕ → Type 0) (n c : ℕ) : Type 0 where
  pub cells : List ℕ
  pub many : n ≤ length cells
  pub apart : (i j : ℕ) → i < j → j < length cells → slice_index cells i ≢ slice_index cells j
  pub inside : (i : ℕ) → i < length cells → AreJoined Near c (slice_index cells i)

-- the side of `b` of the edge of `a` and `b` has n cells or more that are not on the side of `d` of the edge of `m` and `d`
pub record HasSideWithout (Near : ℕ → ℕ → Type 0) (m d a b n : ℕ) : Type 0 where
  pub cells : List ℕ
  pub many : n ≤ length cells
  pub apart : (i j : ℕ) → i < j → j < length cells → slice_index cells i ≢ slice_index cells j
  pub inside : (i : ℕ) → i < length cells → IsOnSide Near a b (slice_index cells i)
  pub outside : (i : ℕ) → i < length cells → IsOnSide Near m d (slice_index cells i) → ⊥

-- the cell is roomy for n robots in the map without the side of `d` of the edge of `m` and `d`
abbrev pub IsRoomyWithout : (ℕ → ℕ → Type 0) → (m d n c : ℕ) → Type 0
IsRoomyWithout Near m d n c = (a b : ℕ) → IsBridge Near a b → IsOnSide Near a b c → HasSideWithout Near m d a b n

-- the side of `d` of a bridge is a room for n robots: its mouth `m` is roomy for n robots without it
pub record IsRoom (Near : ℕ → ℕ → Type 0) (n m d : ℕ) : Type 0 where
  pub bridge : IsBridge Near m d
  pub mouth : IsRoomyWithout Near m d n m

-- the cell is roomy for n robots, or in a room for n robots
abbrev pub IsServed : (ℕ → ℕ → Type 0) → (n c : ℕ) → Type 0
IsServed Near n c = IsRoomy Near n c ⊎ ((m : ℕ) × (d : ℕ) × IsRoom Near n m d × IsOnSide Near m d c)

-- the part has n cells or more, also without any one or two sides of bridges that do not have the cell: n is at most the cells of the part but those on the two greatest
-- sides beyond the bridges that leave the cell's block
pub record IsCore (Near : ℕ → ℕ → Type 0) (n c : ℕ) : Type 0 where
  pub part : HasPart Near n c
  pub sides : (m d : ℕ) → IsBridge Near m d → IsOnSide Near d m c → IsRoomyWithout Near m d n c

-- The rooms of a map, by functions of cells. Each part has a core, one cell for all of its cells: it is in the block of greatest capacity. A cell of the core's block has
-- the core as its door. Each other cell is in a room: the side of the door of the bridge of mouth and door, where the mouth is in the core's block. The mouth and the size
-- of a room are by its door, the capacity of a part is by its core.
pub record AreRoomsBy (m : Floor) (core door mouth size capacity : ℕ → ℕ) : Type 0 where
  pub part : (c : ℕ) → IsFloor m c → AreJoined (IsNeighbour m) c (core c)
  pub one_core : (c d : ℕ) → IsNeighbour m c d → core c ≡ core d
  pub block : (c : ℕ) → IsFloor m c → (door c ≡ core c) ↔ AreInBlock (IsNeighbour m) (core c) c
  pub bridge : (c : ℕ) → IsFloor m c → door c ≢ core c → IsBridge (IsNeighbour m) (mouth (door c)) (door c)
  pub mouth_in : (c : ℕ) → IsFloor m c → door c ≢ core c → AreInBlock (IsNeighbour m) (core c) (mouth (door c))
  pub room : (c x : ℕ) → IsFloor m c → door c ≢ core c → IsFloor m x → (door x ≡ door c) ↔ IsOnSide (IsNeighbour m) (mouth (door c)) (door c) x
  pub sized : (c n : ℕ) → IsFloor m c → door c ≢ core c → (n ≤ size (door c)) ↔ HasSide (IsNeighbour m) (mouth (door c)) (door c) n
  pub counted : (c n : ℕ) → IsFloor m c → (n ≤ capacity (core c)) ↔ IsCore (IsNeighbour m) n (core c)
  pub greatest : (c n : ℕ) → IsFloor m c → IsCore (IsNeighbour m) n c → n ≤ capacity (core c)

-- the lists are the rooms of the map, as functions of cells
abbrev pub AreRooms : {A : Type 0} → Floor → Rooms A → Type 0
AreRooms m rooms = AreRoomsBy m (slice_index rooms.core.items) (slice_index rooms.door.items) (slice_index rooms.mouth.items) (slice_index rooms.size.items) (slice_index rooms.capacity.items)
