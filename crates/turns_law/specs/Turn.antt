-- A tick in which robots take turns in rooms.
use Rattle.std.specs.Prelude.{◌≡◌, ℕ, ◌==◌, List, Option, Some, None, if◌then◌else◌, slice_index}
use Rattle.fleet_grid.specs.Floor.{Floor}
use Rattle.fleet_hooks.specs.declared.law.TieLaw.{TieLaw}
use Rattle.fleet_pibt.specs.Door.{IsSteppedWithDoor}
use Rattle.fleet_pibt.specs.Eldest.{IsEldest}
use Rattle.fleet_planner.specs.Lending.{IsLent, goal_at}
use Rattle.fleet_planner.specs.declared.lending.Lending.{Lending}
use Rattle.turns_law.specs.Turns.{Turns}

-- the robots' goals: the lender's is the core of its cell's part, and all others have their own. From a cell of a room the way to the
-- core begins with the way to the mouth.
abbrev pub goal_in_turn : (core cells : List ℕ) → (lender : Option ℕ) → (ℕ → Option ℕ) → ℕ → Option ℕ
goal_in_turn core cells None goals robot = goals robot
goal_in_turn core cells (Some lender) goals robot = if robot == lender then Some (slice_index core (slice_index cells lender)) else goals robot

-- the robots go from these cells to those in a tick with these goals, waits and laws of ties, and this is what was lent for it
pub record IsTurn (m : Floor) (t : Turns) (laws : List TieLaw) (goals waits : List (Option ℕ)) (from to : List ℕ) (lending : Lending) : Type 0 where
  -- the robots were put in order by these ranks
  pub ranks : List (Option ℕ)
  pub lent : IsLent t.core t.door t.mouth t.capacity t.away from goals waits ranks lending
  pub first : (x : ℕ) → lending.lender ≡ Some x → IsEldest ranks x
  pub stepped : IsSteppedWithDoor m lending.door ranks (goal_in_turn t.core from lending.lender (goal_at goals)) laws from to
