-- Why worlds are not opened.
use Rattle.std.specs.Prelude.{⊤, ℕ, ◌≡◌, ◌<◌, ◌≤◌, ◌⊎◌, List, length, slice_index}
use Rattle.fleet_grid.specs.Floor.{Floor, IsFloor}
use Rattle.fleet_grid.specs.Step.{IsPlacement}
use Rattle.fleet_book.specs.declared.limits.Limits.{Limits}
use Rattle.fleet_core.specs.Hooks.{HookLaws, HaveCount}
use Rattle.fleet_core.specs.Opening.{AreInRange, AreRobots, AreOnFloor}
use Rattle.fleet_core.specs.declared.faults.OpenFault.{OpenFault}
use Rattle.fleet_core.specs.declared.faults.OpenFault.TheVariants as fault

-- the robot is the first that does not start on floor
pub record IsFirstOffFloor (m : Floor) (starts : List ℕ) (r : ℕ) : Type 0 where
  pub known : r < length starts
  pub off : IsFloor m (slice_index starts r) → ⊥
  pub before : (q : ℕ) → q < r → IsFloor m (slice_index starts q)

-- two robots start on one cell
pub record AreShared (starts : List ℕ) (i j : ℕ) : Type 0 where
  pub before : i < j
  pub known : j < length starts
  pub same : slice_index starts i ≡ slice_index starts j

-- they are the least pair of robots that start on one cell
pub record IsFirstShared (starts : List ℕ) (i j : ℕ) : Type 0 where
  pub shared : AreShared starts i j
  pub least : (k l : ℕ) → AreShared starts k l → (i < k) ⊎ ((i ≡ k) × (j ≤ l))

-- when an opening is refused for this reason, whatever its hooks
abbrev pub IsStartRefused : Floor → List ℕ → ℕ → Limits → OpenFault → Type 0
IsStartRefused m starts clients limits fault.Limits = AreInRange clients limits → ⊥
IsStartRefused m starts clients limits fault.NoRobots = AreInRange clients limits × (AreRobots starts → ⊥)
IsStartRefused m starts clients limits (fault.Start r) = AreInRange clients limits × AreRobots starts × IsFirstOffFloor m starts r
IsStartRefused m starts clients limits (fault.Shared i j) =
    AreInRange clients limits × AreRobots starts × AreOnFloor m starts × IsFirstShared starts i j
IsStartRefused m starts clients limits fault.Hooks = ⊥
IsStartRefused m starts clients limits fault.NoMemory = ⊥

-- when an opening is refused for this reason, out of memory apart
abbrev pub IsRefused : Floor → List ℕ → ℕ → Limits → HookLaws → OpenFault → Type 0
IsRefused m starts clients limits laws fault.Hooks =
    AreInRange clients limits × AreRobots starts × IsPlacement m starts × (HaveCount (length starts) laws → ⊥)
IsRefused m starts clients limits laws fault = IsStartRefused m starts clients limits fault

-- a reason other than out of memory
abbrev pub IsNamed : OpenFault → Type 0
IsNamed fault.NoMemory = ⊥
IsNamed _ = ⊤
