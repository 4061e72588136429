-- For how many robots all cells of a map are served, where robots take turns.
use Rattle.std.specs.Prelude.{ℕ, ◌^◌, ◌<◌, ◌≤◌, ◌↔◌, slice_index}
use Rattle.fleet_grid.specs.Floor.{Floor, IsFloor, IsNeighbour}
use Rattle.fleet_grid.specs.Walk.{AreJoined}
use Rattle.fleet_bridge.specs.Rooms.{IsCore}
use Rattle.fleet_bridge.specs.declared.rooms.Rooms.{Rooms}

-- each floor cell is joined to a cell around which all cells of the part are served for n robots
abbrev pub AreAllServed : Floor → ℕ → Type 0
AreAllServed m n = (c : ℕ) → IsFloor m c → (x : ℕ) × AreJoined (IsNeighbour m) c x × IsCore (IsNeighbour m) n x

-- the greatest number of robots for which all floor cells are served, where 2^32 - 1 stands for every number
abbrev pub IsServedLimit : Floor → ℕ → Type 0
IsServedLimit m most = (n : ℕ) → n < 2 ^ 32 → (n ≤ most) ↔ AreAllServed m n

-- the capacity of the cell's part
abbrev pub capacity_at : {A : Type 0} → Rooms A → ℕ → ℕ
capacity_at rooms c = slice_index rooms.capacity.items (slice_index rooms.core.items c)
