-- How many robots each cell of a map is roomy for.
use Rattle.std.specs.Prelude.{◌≡◌, ℕ, ◌^◌, ◌<◌, ◌≤◌, ◌↔◌, List, length, slice_index}
use Rattle.fleet_grid.specs.Floor.{Floor, IsFloor, IsNeighbour}
use Rattle.fleet_grid.specs.Walk.{IsRoomy}

-- for each floor cell the greatest number of robots that it is roomy for, where 2^32 - 1 stands for every number
pub record AreRoomyFor (m : Floor) (most : List ℕ) : Type 0 where
  pub size : length most ≡ length m.letters
  pub each : (c n : ℕ) → IsFloor m c → n < 2 ^ 32 → (n ≤ slice_index most c) ↔ IsRoomy (IsNeighbour m) n c
