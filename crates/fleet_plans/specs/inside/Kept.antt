-- What is true of a judge's fields.
use Rattle.std.specs.Prelude.{◌≡◌, ℕ, ◌<◌, ◌≤◌, ◌^◌, List, length}
use Rattle.fleet_grid.specs.Floor.{Floor}
use Rattle.fleet_grid.specs.Step.{IsPlacement}

pub record IsKept (m : Floor) (count : ℕ) (first last costs : List ℕ) : Type 0 where
  pub begins : length first < 2 ^ 32
  pub placed : IsPlacement m last
  pub each_one : length costs ≡ length last
  pub times : count ≤ 2 ^ 32
  pub robots : length last < 2 ^ 32
