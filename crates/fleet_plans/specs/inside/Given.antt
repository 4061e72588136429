-- What a judge was given by a reader.
use Rattle.std.specs.Prelude.{◌≡◌, ℕ, ◌≤◌, List, length, Option, Some, Result}
use Rattle.fleet_grid.specs.Floor.{Floor}
use Rattle.fleet_plans.specs.Judge.{Judged, HasJudged}
use Rattle.fleet_plans.specs.Head.{Head}
use Rattle.fleet_plans.specs.Places.{places_of}

-- one placement or more, of which this holds
pub record IsGiven (m : Floor) (Holds : List (List ℕ) → Type 0) (judge : Judged) : Type 0 where
  pub places : List (List ℕ)
  pub some : 1 ≤ length places
  pub holds : Holds places
  pub given : HasJudged m places judge

-- the placements that these are
pub record IsGivenAs (m : Floor) (said : Option (List (List ℕ))) (judge : Judged) : Type 0 where
  pub places : List (List ℕ)
  pub are : said ≡ Some places
  pub given : HasJudged m places judge

-- placements from which these lines read on to that
pub record IsReadTo (w h : ℕ) (head : Head) (m : Floor) (number : ℕ) (lines : List (List ℕ)) (read : Result (List (List ℕ)) ℕ) (judge : Judged) : Type 0 where
  pub places : List (List ℕ)
  pub given : HasJudged m places judge
  pub goes_on : places_of w h head places number lines ≡ read
