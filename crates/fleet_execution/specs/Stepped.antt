-- What is kept after a further step.
use Rattle.std.specs.Prelude.{◌≡◌, ◌≢◌, ℕ, ◌+◌, ◌%◌, ◌<◌, ◌≤◌, ◌⊎◌, List, Option, Some, slice_index}
use Rattle.fleet_execution.specs.declared.robot.Leave.{Leave}
use Rattle.fleet_execution.specs.declared.robot.Planned.{Planned}
use Rattle.fleet_execution.specs.Desk.{Desk}
use Rattle.fleet_execution.specs.Executes.{IsKept}

-- a further step may be planned: each move of the step that leaves the window is reached
abbrev pub HasRoom : Desk → Type 0
HasRoom d = (d.steps < 18446744073709551615) × (d.unreached ((d.steps + 1) % d.ahead) ≡ 0)

-- robot r leaves its cell in the step
abbrev pub IsMover : Desk → List ℕ → ℕ → Type 0
IsMover d to r = slice_index to r ≢ (d.robot r).last

-- of the first n robots, who left the cell last in the step
abbrev pub IsNoted : Desk → List ℕ → (ℕ → Option Leave) → ℕ → ℕ → Type 0
IsNoted d to l n c = ((r : ℕ) × (r < n) × IsMover d to r × ((d.robot r).last ≡ c) × (l c ≡ Some (record { robot = r; step = d.steps + 1 })))
    ⊎ (((r : ℕ) → r < n → IsMover d to r → (d.robot r).last ≢ c) × (l c ≡ d.leave c))

-- who left each cell last after the step
abbrev pub AreNoted : Desk → List ℕ → (ℕ → Option Leave) → Type 0
AreNoted d to l = (c : ℕ) → c < d.cells → IsNoted d to l d.count c

-- who left a cell last is a robot, and did so in a planned step; two robots that move come to cells that others left
pub record AreLast (d : Desk) (to : List ℕ) : Type 0 where
  pub known : (c : ℕ) (v : Leave) → c < d.cells → d.leave c ≡ Some v → (v.robot < d.count) × (v.step ≤ d.steps + 1) × (0 < v.step)
  pub apart : (p q : ℕ) (v : Leave) → p < d.count → q < d.count → IsMover d to p → IsMover d to q →
      d.leave (slice_index to p) ≡ Some v → d.leave (slice_index to q) ≡ Some v → p ≡ q

-- of the first n robots, each that moves was told to the one that leaves its new cell last
pub record IsTold (d : Desk) (to : List ℕ) (n : ℕ) (w : ℕ → ℕ → Planned) : Type 0 where
  pub told : (p : ℕ) (v : Leave) → p < n → IsMover d to p → d.leave (slice_index to p) ≡ Some v → IsKept d.ahead (d.steps + 1) v.step → (w v.robot v.step).follower ≡ Some p
  pub old : (q e : ℕ) → q < d.count → IsKept d.ahead (d.steps + 1) e → ((w q e).follower ≡ (d.window q e).follower)
      ⊎ ((p : ℕ) × (p < d.count) × IsMover d to p × (d.leave (slice_index to p) ≡ Some (record { robot = q; step = e })))
