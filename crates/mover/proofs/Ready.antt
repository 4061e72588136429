-- What a state of a history, and a planner that goes by its goals, give a tick of turns.
use Rattle.std.proofs.Common.{◌≡◌, ℕ, ◌+◌, ◌^◌, ◌<◌, List, length, Option, sym, ap, subst, ◌∙◌, arith}
use Rattle.fleet_grid.specs.Floor.{Floor}
use Rattle.fleet_history.specs.History.{History, robots, place, clock}
use Rattle.fleet_history.specs.Legal.{IsLegal}
use Rattle.fleet_planner.specs.Aimed.{IsAimed}
use Rattle.fleet_planner.specs.Courses.{goals_of}
use Rattle.fleet_planner.specs.Planned.{waits, goals}
use Rattle.fleet_planner.proofs.GoalsKept.{aims-count}
use Rattle.fleet_state.specs.State.{State, IsStateOf}
use Rattle.fleet_state.proofs.Parts.{cells-of, waits-of, queue-count, length-by}
use Rattle.turns_history.specs.Fleets.{IsEarly}
use Rattle.turns_history.proofs.Views.{fleet-legal}
use Rattle.fleet_planner.specs.Planned.{cell_of}
use Rattle.fleet_history.specs.History.{front}
use Rattle.fleet_turns.specs.Planning.{TurnPlanner, IsPlannerOf, IsReady}
use Rattle.fleet_hooks.specs.declared.law.TieLaw.{TieLaw}
use Rattle.fleet_planner.specs.declared.lending.Lending.{Lending}
use Rattle.turns_law.specs.Turns.{Turns}
use Rattle.turns_law.specs.Turn.{IsTurn}
use Rattle.mover.specs.Moving.{AreTurnsOf}
use Rattle.mover.specs.inside.Turning.{TurnFleet, planner_of, turn_planner}

-- the planner is one of turns
pub planner-for : {A : Type 0} {m : Floor} {h : History A} {s : State A} {f : TurnFleet} (n : ℕ) → IsStateOf m h s → IsAimed m h (planner_of f) → AreTurnsOf m (length s.queues) f.turns → n ≡ length s.queues →
    IsPlannerOf m n (turn_planner f)
planner-for {m = m} {h = h} {f = f} n k a turns same =
    let many : n ≡ robots h = same ∙ queue-count k in
    record {
      turns = turns.are;
      many = turns.many ∙ sym same;
      asked = aims-count h f.aims a.aimed ∙ sym many;
      on = a.on;
      made = a.sized ∙ ap (λ (r : ℕ). record { cells = length m.letters; robots = r }) (sym many);
    }

-- the tick of a legal history may be planned in turns
legal-ready : {A : Type 0} (m : Floor) (h : History A) → IsLegal m h → IsEarly h → IsReady m (goals h) (place h) (waits h)
legal-ready m h legal early =
    let fleet = fleet-legal m h legal early in
    record {
      placed = fleet.placed;
      asked = length-by (λ r. cell_of (front h r)) (robots h) ∙ sym fleet.robots;
      waiting = fleet.waiting ∙ sym fleet.robots;
      each = λ r l. (
          let known : r < robots h = omega (arith, l, fleet.robots) in
          record { waited = fleet.waited r known; reached = λ g is. fleet.reached r g known is; early = λ w is. fleet.early r w is });
    }

pub ready-for : {A : Type 0} {m : Floor} {h : History A} {s : State A} (f : TurnFleet) → IsStateOf m h s → IsAimed m h (planner_of f) → s.tick + 1 < 2 ^ 63 → IsReady m (goals_of f.aims) s.cells s.waits
ready-for {m = m} {h = h} {s = s} f k a early =
    let tick : s.tick ≡ clock h = ap (λ (t : State _). t.tick) k.is in
    rw (a.aimed, cells-of k, waits-of k) (legal-ready m h k.legal (omega (arith, early, tick)))

-- its tables are as large as they were
pub size-kept : {A : Type 0} {m : Floor} {h : History A} {s : State A} (f : TurnFleet) (n : ℕ) (q : TurnPlanner) → IsStateOf m h s → IsAimed m h (planner_of f) → n ≡ length s.queues → IsPlannerOf m n q → q.stepper ≡ f.size
size-kept {m = m} f n q k a same new = new.made ∙ ap (λ (r : ℕ). record { cells = length m.letters; robots = r }) (same ∙ queue-count k) ∙ sym a.sized

-- a turn of what is equal
pub turn-as : {m : Floor} {laws : List TieLaw} {lending : Lending} (t t' : Turns) (gs gs' ws ws' : List (Option ℕ)) (from from' to to' : List ℕ) → t ≡ t' → gs ≡ gs' → ws ≡ ws' → from ≡ from' → to' ≡ to →
    IsTurn m t laws gs ws from to lending → IsTurn m t' laws gs' ws' from' to' lending
turn-as {m = m} {laws = laws} {lending = lending} t t' gs gs' ws ws' from from' to to' a b c d e it =
    subst (λ (x : Turns). IsTurn m x laws gs' ws' from' to' lending) a
    (subst (λ (x : List (Option ℕ)). IsTurn m t laws x ws' from' to' lending) b
    (subst (λ (x : List (Option ℕ)). IsTurn m t laws gs x from' to' lending) c
    (subst (λ (x : List ℕ). IsTurn m t laws gs ws x to' lending) d
    (subst (λ (x : List ℕ). IsTurn m t laws gs ws from x lending) (sym e) it))))
