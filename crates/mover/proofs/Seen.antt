-- What a planner of a known kind is seen as.
use Rattle.std.proofs.Common.{◌≡◌, ℕ, ◌↔◌, false, length, Option, Some, None, IsTrue, refl, sym, ap, subst, ◌∙◌}
use Rattle.std.specs.Prelude.{unwrap_or}
use Rattle.std.proofs.lemmas.Bool.{false≢true}
use Rattle.fleet_grid.specs.Floor.{Floor, IsNeighbour}
use Rattle.fleet_grid.specs.Walk.{IsBridgeless}
use Rattle.fleet_field.specs.Store.{Keeps}
use Rattle.fleet_history.specs.History.{History}
use Rattle.fleet_planner.specs.Aimed.{Planner, IsAimed, IsNewPlanner, first_goals}
use Rattle.fleet_planner.specs.Courses.{goals_of, AreOn}
use Rattle.fleet_planner.proofs.FirstGoals.{first-goals}
use Rattle.fleet_state.specs.State.{State, IsStateOf}
use Rattle.fleet_state.proofs.Parts.{queue-count}
use Rattle.mover.specs.declared.manner.Manner.{Manner}
use Rattle.mover.specs.declared.manner.Manner.TheVariants as manner
use Rattle.mover.specs.declared.mover.Kind.{Kind}
use Rattle.mover.specs.declared.mover.Kind.TheVariants as kind
use Rattle.turns_law.specs.Turns.{Turns, AreTurns}
use Rattle.mover.specs.Moving.{Mover, AreTurnsOf, HasTurns, IsManner, IsNewMover}
use Rattle.mover.specs.inside.Kinds.{seen}
use Rattle.mover.specs.inside.Turning.{TurnFleet, IsNewFleet, moved, planner_of}

abbrev pub plain : Planner → Mover
plain p = record { planner = p; turns = None }

pub seen-plain : {A : Type 0} (k : Kind A) (p : Planner) (now : Mover) → k ≡ kind.Plain p → seen k ≡ now → plain p ≡ now
seen-plain k p now is view = ap seen (sym is) ∙ view

pub seen-turns : {A : Type 0} (k : Kind A) (f : TurnFleet) (now : Mover) → k ≡ kind.Turns f → seen k ≡ now → moved f ≡ now
seen-turns k f now is view = ap seen (sym is) ∙ view

-- a plain planner is right where turns were chosen only if the map has no bridge
pub plain-manner : (m : Floor) (asked : Manner) → (asked ≡ manner.Turns → IsBridgeless (IsNeighbour m)) → IsManner m asked None
plain-manner m manner.Plain none = refl
plain-manner m manner.Turns none = λ e. none refl

none_some : (t : Turns) → Some t ≡ None → ⊥
none_some t e = cc

pub turns-manner : (m : Floor) (asked : Manner) (t : Turns) → asked ≡ manner.Turns → IsManner m asked (Some t)
turns-manner m asked t is = subst (λ (a : Manner). IsManner m a (Some t)) (sym is) (λ e. absurd (none_some t e))

pub has-none : (m : Floor) (n : ℕ) → HasTurns m n None
has-none m n t is = absurd (none_some t (sym is))

pub has-turns : (m : Floor) (n : ℕ) (u : Turns) → AreTurns m u → u.robots ≡ n → (IsBridgeless (IsNeighbour m) → ⊥) → HasTurns m n (Some u)
has-turns m n u are many bridge t is =
    let same : u ≡ t = ap (λ (o : Option Turns). unwrap_or o u) is in
    subst (AreTurnsOf m n) same (record { are = are; many = many; bridge = bridge })

-- ---- new ones

pub new-plain : (m : Floor) (n : ℕ) (asked : Manner) (p : Planner) → IsNewPlanner m n p → (asked ≡ manner.Turns → IsBridgeless (IsNeighbour m)) → IsNewMover m n asked (plain p)
new-plain m n asked p new flat = record { planner = new; turns = has-none m n; chosen = plain-manner m asked flat }

flat_or_false : (m : Floor) → (IsBridgeless (IsNeighbour m) → ⊥) → IsTrue false ↔ IsBridgeless (IsNeighbour m)
flat_or_false m bridge = ((λ t. absurd (false≢true t)), (λ flat. absurd (bridge flat)))

pub new-in-turns : (m : Floor) (n : ℕ) (asked : Manner) (f : TurnFleet) → IsNewFleet m n f → asked ≡ manner.Turns → (IsBridgeless (IsNeighbour m) → ⊥) → IsNewMover m n asked (moved f)
new-in-turns m n asked f new is bridge = record {
  planner = record {
    none = new.planner.none;
    on = new.planner.planner.on;
    size = new.planner.planner.made;
    bridge = flat_or_false m bridge;
    keeps = new.keeps;
  };
  turns = has-turns m n f.turns new.planner.planner.turns new.planner.planner.many bridge;
  chosen = turns-manner m asked f.turns is;
}

-- the goals of a fleet whose robots take turns are those of the history
pub aimed-in-turns : {A : Type 0} {m : Floor} {h : History A} {s : State A} (f : TurnFleet) → IsStateOf m h s → goals_of f.aims ≡ first_goals s.queues → AreOn m f.aims →
    f.size ≡ record { cells = length m.letters; robots = length s.queues } → Keeps m f.kept → (IsBridgeless (IsNeighbour m) → ⊥) → IsAimed m h (planner_of f)
aimed-in-turns {m = m} f k aims on size keeps bridge = record {
  aimed = aims ∙ first-goals k;
  on = on;
  sized = size ∙ ap (λ (n : ℕ). record { cells = length m.letters; robots = n }) (queue-count k);
  bridge = flat_or_false m bridge;
  kept = keeps;
}
