-- A planner of a chosen manner, and how it plans.
use Rattle.std.specs.Prelude.{◌≡◌, ℕ, List, Option, Some, None}
use Rattle.fleet_grid.specs.Floor.{Floor, IsNeighbour}
use Rattle.fleet_grid.specs.Walk.{IsBridgeless}
use Rattle.fleet_hooks.specs.declared.law.TieLaw.{TieLaw}
use Rattle.fleet_planner.specs.Aimed.{Planner, IsNewPlanner}
use Rattle.fleet_history.specs.History.{History, place}
use Rattle.fleet_planner.specs.Planned.{IsPlannedBy, waits, goals}
use Rattle.fleet_planner.specs.declared.lending.Lending.{Lending}
use Rattle.turns_law.specs.Turns.{Turns, AreTurns}
use Rattle.turns_law.specs.Turn.{IsTurn}
use Rattle.mover.specs.declared.manner.Manner.{Manner}
use Rattle.mover.specs.declared.manner.Manner.TheVariants as manner

-- what is planned by, and the turns by which robots take turns; without them it is planned plainly
pub record Mover : Type 0 where
  pub planner : Planner
  pub turns : Option Turns

-- turns of the map, which has a bridge, for n robots
pub record AreTurnsOf (m : Floor) (n : ℕ) (t : Turns) : Type 0 where
  pub are : AreTurns m t
  pub many : t.robots ≡ n
  pub bridge : IsBridgeless (IsNeighbour m) → ⊥

-- turns, if there are any, are those of the map
abbrev pub HasTurns : Floor → ℕ → Option Turns → Type 0
HasTurns m n turns = (t : Turns) → turns ≡ Some t → AreTurnsOf m n t

-- the turns of a manner that was chosen: where turns were, there are none only if the map has no bridge
abbrev pub IsManner : Floor → Manner → Option Turns → Type 0
IsManner m manner.Plain turns = turns ≡ None
IsManner m manner.Turns turns = turns ≡ None → IsBridgeless (IsNeighbour m)

-- a planner of n robots that have no goals
pub record IsNewMover (m : Floor) (n : ℕ) (asked : Manner) (p : Mover) : Type 0 where
  pub planner : IsNewPlanner m n p.planner
  pub turns : HasTurns m n p.turns
  pub chosen : IsManner m asked p.turns

-- a step that is planned by turns, or plainly where there are none
abbrev pub IsTickBy : Option Turns → (m : Floor) (laws : List TieLaw) (waits goals : List (Option ℕ)) (from to : List ℕ) → Type 0
IsTickBy None m laws waits goals from to = IsPlannedBy m laws waits goals from to
IsTickBy (Some t) m laws waits goals from to = (lending : Lending) × IsTurn m t laws goals waits from to lending

-- a tick after the history that is planned so
abbrev pub IsPlannedAs : {A : Type 0} → Option Turns → Floor → List TieLaw → History A → List ℕ → Type 0
IsPlannedAs turns m ties h to = IsTickBy turns m ties (waits h) (goals h) (place h) to
