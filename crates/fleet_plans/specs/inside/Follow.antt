-- How far robots have followed their paths.
use Rattle.std.specs.Prelude.{◌≡◌, ℕ, ◌<◌, List, length}
use Rattle.fleet_grid.specs.Floor.{Floor}
use Rattle.fleet_plans.specs.Valid.{place_at}
use Rattle.fleet_plans.specs.Paths.{ArePlaced}
use Rattle.fleet_plans.specs.Judge.{Judged, HasJudged}

-- the judge has the placements of the first n times
pub record AreTaken (m : Floor) (paths : List (List ℕ)) (n : ℕ) (judge : Judged) : Type 0 where
  pub places : List (List ℕ)
  pub count : length places ≡ n
  pub placed : (t : ℕ) → t < n → ArePlaced paths t (place_at places t)
  pub given : HasJudged m places judge
