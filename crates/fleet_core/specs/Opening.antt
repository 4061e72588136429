-- Which worlds are opened.
use Rattle.std.specs.Prelude.{ℕ, ◌<◌, List, length, slice_index}
use Rattle.fleet_grid.specs.Floor.{Floor, IsFloor}
use Rattle.fleet_grid.specs.Step.{IsPlacement}
use Rattle.fleet_book.specs.declared.limits.Limits.{Limits}
use Rattle.fleet_book.specs.Limits.{AreValid, IsBetween}
use Rattle.fleet_core.specs.Hooks.{HookLaws, HaveCount}

-- the limits and the number of clients are in their ranges
abbrev pub AreInRange : ℕ → Limits → Type 0
AreInRange clients limits = AreValid limits × IsBetween 1 64 clients

-- there are 1 to 512 robots
abbrev pub AreRobots : List ℕ → Type 0
AreRobots starts = IsBetween 1 512 (length starts)

-- each robot starts on a floor cell
abbrev pub AreOnFloor : Floor → List ℕ → Type 0
AreOnFloor m starts = (r : ℕ) → r < length starts → IsFloor m (slice_index starts r)

-- what an opening asks for, its hooks apart
pub record CanStart (m : Floor) (starts : List ℕ) (clients : ℕ) (limits : Limits) : Type 0 where
  pub range : AreInRange clients limits
  pub robots : AreRobots starts
  pub placed : IsPlacement m starts

-- what an opening asks for
pub record CanOpen (m : Floor) (starts : List ℕ) (clients : ℕ) (limits : Limits) (laws : HookLaws) : Type 0 where
  pub range : AreInRange clients limits
  pub robots : AreRobots starts
  pub placed : IsPlacement m starts
  pub hooks : HaveCount (length starts) laws
