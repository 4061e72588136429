-- What a grid keeps besides its map.
use Rattle.std.specs.Prelude.{◌≡◌, ◌↔◌, ℕ, Bool, IsTrue, List}
use Rattle.fleet_grid.specs.Floor.{Floor, HasForm}
use Rattle.fleet_grid.specs.Padded.{IsPadded}
use Rattle.fleet_grid.specs.Ways.{AreWays}
use Rattle.fleet_grid.specs.inside.Parts.{AreParts}
use Rattle.fleet_grid.specs.Counts.{floor_count}
use Rattle.fleet_grid.specs.Turns.{IsRagged}

pub record IsKept (m : Floor) (stride : ℕ) (blank ways labels : List ℕ) (count : ℕ) (ragged : Bool) : Type 0 where
  pub form : HasForm m
  pub padded : IsPadded m stride blank
  pub led : AreWays m ways
  pub parts : AreParts m labels
  pub counted : count ≡ floor_count m
  pub uneven : IsTrue ragged ↔ IsRagged m
