-- Errands to cells that a robot can reach.
use Rattle.std.specs.Prelude.{◌≡◌, ℕ, List, [], ◌∷◌, ◌++◌, length}
use Rattle.fleet_grid.specs.Floor.{Floor, IsFloor, IsNeighbour}
use Rattle.fleet_grid.specs.Walk.{AreJoined}
use Rattle.fleet_queue.specs.declared.errand.Errand.{Errand}
use Rattle.fleet_refit.specs.declared.change.Dropped.{Dropped}
use Rattle.fleet_refit.specs.declared.seat.Seat.{Seat}
use Rattle.fleet_refit.specs.declared.seat.Standing.{Standing}
use Rattle.fleet_refit.specs.declared.seat.Standing.TheVariants as standing
use Rattle.fleet_refit.specs.Changed.{IsCut}

-- the errand's cell is floor, and a walk leads there from that cell
pub record Reaches (m : Floor) (from : ℕ) (e : Errand) : Type 0 where
  pub starts : IsFloor m from
  pub floor : IsFloor m e.cell
  pub joined : AreJoined (IsNeighbour m) from e.cell

-- a robot that moves keeps the errands to cells that it can reach; any other robot keeps all
abbrev pub SettlesAs : {A : Type 0} → Floor → ℕ → Standing → Seat A → Seat A → List Dropped → Type 0
SettlesAs m robot standing.Moving x y dropped = IsCut (Reaches m x.robot.cell) robot dropped x y
SettlesAs m robot standing.Held x y dropped = (y ≡ x) × (dropped ≡ [])
SettlesAs m robot standing.Gone x y dropped = (y ≡ x) × (dropped ≡ [])

-- the robot of this number keeps such errands, by how it takes part; the others are dropped
abbrev pub IsSettled : {A : Type 0} → Floor → ℕ → Seat A → Seat A → List Dropped → Type 0
IsSettled m robot x y dropped = SettlesAs m robot x.standing x y dropped

-- the same of all robots, in order
pub data AreSettled {A : Type 0} (m : Floor) : List (Seat A) → List (Seat A) → List Dropped → Type 0 where
  none : AreSettled m [] [] []
  more : {xs ys : List (Seat A)} {before : List Dropped} (x y : Seat A) (dropped : List Dropped) → AreSettled m xs ys before → IsSettled m (length xs) x y dropped →
      AreSettled m (xs ++ x ∷ []) (ys ++ y ∷ []) (before ++ dropped)
