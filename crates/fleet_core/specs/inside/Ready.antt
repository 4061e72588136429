-- A tick that is made ready before anything is entered.
use Rattle.std.specs.Prelude.{ℕ, ◌≡◌, ◌<◌, List, Option, map, vec_len, vec_capacity, Vec}
use Rattle.fleet_grid.specs.Floor.{Floor}
use Rattle.fleet_grid.specs.Step.{IsConflictFree}
use Rattle.fleet_field.specs.Store.{Keeps}
use Rattle.fleet_planner.specs.Courses.{goals_of, AreOn}
use Rattle.fleet_hooks.specs.declared.law.TieLaw.{TieLaw}
use Rattle.fleet_history.specs.declared.history.Arrival.{Arrival}
use Rattle.fleet_history.specs.declared.history.Bye.{Bye}
use Rattle.fleet_history.specs.declared.history.Entry.TheVariants as entry
use Rattle.fleet_history.specs.History.{after}
use Rattle.fleet_history.specs.Legal.{due_of, due, leaving}
use Rattle.fleet_state.specs.State.{State, Of}
use Rattle.fleet_planner.specs.Aimed.{goals_ticked}
use Rattle.turns_law.specs.Turns.{Turns}
use Rattle.mover.specs.Moving.{Mover, IsTickBy}

-- where the robots go by these laws and goals, whom that lets arrive, and who leaves with whatever stamps
pub record IsStep {A : Type 0} (m : Floor) (turns : Option Turns) (laws : List TieLaw) (s : State A) (goals : List (Option ℕ)) (to : List ℕ) (come : List Arrival) (gone : List Bye) : Type 0 where
  pub conflict_free : IsConflictFree m s.cells to
  pub planned : IsTickBy turns m laws s.waits goals s.cells to
  pub arrived : Of s (λ h. map due_of come ≡ due h to)
  pub leaving : (stamped : List Arrival) (others : List Bye) → Of s (λ h. map due_of stamped ≡ due h to → map (λ b. b.robot) gone ≡ leaving h (after h (entry.Tick to stamped others)))

-- the planner goes by the same map in the same manner, whatever its robots aim at
pub record IsOnSame (m : Floor) (p q : Mover) : Type 0 where
  pub turns : q.turns ≡ p.turns
  pub on : AreOn m q.planner.aims
  pub size : q.planner.size ≡ p.planner.size
  pub bridge : q.planner.bridgeless ≡ p.planner.bridgeless
  pub keeps : Keeps m q.planner.kept

-- the robots aim at the goals that they have after a tick to these cells, and one entry more has room
pub record IsReady {A X B : Type 0} (s : State A) (to : List ℕ) (q : Mover) (entries : Vec X B) : Type 0 where
  pub goals : goals_of q.planner.aims ≡ goals_ticked s.queues to
  pub room : vec_len entries < vec_capacity entries
