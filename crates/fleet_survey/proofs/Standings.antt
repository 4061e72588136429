-- For which errands the promises are, by the lists of bridges and of cells.
use Rattle.std.proofs.Common.{ℕ, inl, inr, Bool, List, length, get_or, arith}
use Rattle.std.proofs.lemmas.List.Elements.{Contains-get_or}
use Rattle.std.proofs.lemmas.Bool.{cases_Bool}
use Rattle.fleet_grid.specs.Floor.{Floor, HasForm, IsNeighbour}
use Rattle.fleet_bridge.specs.Bridges.{AreBridges}
use Rattle.fleet_bridge.proofs.Rounds.{none_is}
use Rattle.fleet_roomy.specs.Unroomy.{AreUnroomy, IsRoomyCell, IsUnroomyCell, has}
use Rattle.fleet_survey.specs.declared.standing.Standing.{Standing}
use Rattle.fleet_survey.specs.declared.standing.Standing.TheVariants.{Bridgeless, AllRoomy, SomeRoomy, NoneRoomy}
use Rattle.fleet_survey.specs.Survey.{AreCells, IsStanding, IsStandingBy}

pub standing_is : (m : Floor) (n : ℕ) (bridges : List (ℕ × ℕ)) (roomy unroomy : List ℕ) (marks : List Bool) (s : Standing) → HasForm m → AreBridges (IsNeighbour m) bridges → AreCells (IsRoomyCell m n) roomy → AreCells (IsUnroomyCell m n) unroomy
    → AreUnroomy m n marks → IsStandingBy (length bridges) (length roomy) (length unroomy) s → IsStanding m n s
standing_is m n bridges roomy unroomy marks Bridgeless form are_bridges are_roomy are_unroomy known none =
    none_is m (length m.letters) form (omega arith) (λ c low d less bridge. (let found = (are_bridges.each c d).1 (less, bridge) in omega (arith, found.1, none)))
standing_is m n bridges roomy unroomy marks AllRoomy form are_bridges are_roomy are_unroomy known none = λ c floor. elim (cases_Bool (has marks c)) [
  | inl marked ↦ absurd (let found = (are_unroomy.each c).1 ((known.exact c).0 marked) in omega (arith, found.1, none))
  | inr free ↦ known.others c floor free
]
standing_is m n bridges roomy unroomy marks SomeRoomy form are_bridges are_roomy are_unroomy known some = (
  (get_or roomy 0 0, (are_roomy.each (get_or roomy 0 0)).0 (Contains-get_or roomy 0 0 some.0)),
  (get_or unroomy 0 0, (are_unroomy.each (get_or unroomy 0 0)).0 (Contains-get_or unroomy 0 0 some.1)),
)
standing_is m n bridges roomy unroomy marks NoneRoomy form are_bridges are_roomy are_unroomy known none = λ c it. (let found = (are_roomy.each c).1 it in omega (arith, found.1, none))
