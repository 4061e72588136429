-- What a judge of plans keeps of the placements that it was given.
use Rattle.std.specs.Prelude.{◌≡◌, ℕ, ◌-◌, ◌<◌, List, length, Option, Some, None}
use Rattle.fleet_grid.specs.Floor.{Floor}
use Rattle.fleet_grid.specs.Step.{IsPlacement}
use Rattle.fleet_plans.specs.declared.judging.PlanFault.{PlanFault}
use Rattle.fleet_plans.specs.Valid.{place_at, AreStepsFree, IsPlanFault, HasCells}
use Rattle.fleet_plans.specs.Costs.{AreCostsBy}

-- what a judge of plans keeps
pub record Judged : Type 0 where
  -- the map
  pub floor : Floor
  -- the number of placements
  pub count : ℕ
  -- the first placement, the last before a fault, and each robot's cost up to it
  pub first : List ℕ
  pub last : List ℕ
  pub costs : List ℕ
  -- the first fault
  pub fault : Option PlanFault
  -- all placements, if they are kept
  pub kept : Option (List (List ℕ))

-- no placement is at fault, these are the first and the last, and these are the costs
pub record HasPassed (m : Floor) (places : List (List ℕ)) (first last costs : List ℕ) : Type 0 where
  pub first_one : first ≡ place_at places 0
  pub starts : IsPlacement m (place_at places 0)
  pub steps : AreStepsFree m places (length places - 1)
  pub last_one : last ≡ place_at places (length places - 1)
  pub costs_by : AreCostsBy places (length places - 1) costs

-- this is the first fault
pub record HasFailed (m : Floor) (places : List (List ℕ)) (f : PlanFault) : Type 0 where
  pub inside : f.time < length places
  pub first : IsPlanFault m places f.time f.fault
  pub cells : HasCells places f

-- no placement is at fault so far, or this is the first fault
abbrev pub IsSoFar : Floor → List (List ℕ) → List ℕ → List ℕ → List ℕ → Option PlanFault → Type 0
IsSoFar m places first last costs None = HasPassed m places first last costs
IsSoFar m places first last costs (Some f) = HasFailed m places f

-- if placements are kept, they are these
abbrev pub AreKept : Option (List (List ℕ)) → List (List ℕ) → Type 0
AreKept None places = Unit {0}
AreKept (Some kept) places = kept ≡ places

-- the judge has been given exactly these placements, on this map
pub record HasJudged (m : Floor) (places : List (List ℕ)) (judge : Judged) : Type 0 where
  pub on : judge.floor ≡ m
  pub count_is : judge.count ≡ length places
  pub so_far : IsSoFar m places judge.first judge.last judge.costs judge.fault
  pub keeps : AreKept judge.kept places
