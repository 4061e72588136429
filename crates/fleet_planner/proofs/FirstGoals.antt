-- The goals that the queues of a state give its robots.
use Rattle.std.proofs.Common.{◌≡◌, ℕ, zero, suc, ◌+◌, ◌<◌, ◌≤◌, ◌↔◌, List, length, map, get_or, replicate, Option, Some, None, sym, refl, ap, ◌∙◌, subst, arith, inl, inr}
use Rattle.std.specs.Prelude.{IsTrue, slice_get, slice_set, slice_index_or}
use Rattle.std.specs.List.{range_with_len}
use Rattle.std.proofs.lemmas.Bool.{cases_eq}
use Rattle.std.proofs.lemmas.List.{length-replicate, length-set, get_or-set_same, get_or-set_other}
use Rattle.fleet_grid.specs.Floor.{Floor, IsFloor, IsNeighbour}
use Rattle.fleet_grid.specs.Walk.{IsBridgeless}
use Rattle.fleet_field.specs.Store.{Keeps}
use Rattle.fleet_queue.specs.declared.errand.Errand.{Errand}
use Rattle.fleet_queue.specs.Queue.{Queue}
use Rattle.fleet_history.specs.History.{History, robots, front}
use Rattle.fleet_history.proofs.Reach.{front-reach}
use Rattle.fleet_planner.specs.Courses.{Courses, goals_of, AreOn}
use Rattle.fleet_planner.specs.Planned.{goals, cell_of}
use Rattle.fleet_state.specs.Robots.{queue_at}
use Rattle.fleet_state.specs.State.{State, IsStateOf}
use Rattle.fleet_state.proofs.Judged.{items-of}
use Rattle.fleet_state.proofs.Parts.{queue-count, same-by, listed}
use Rattle.fleet_planner.specs.Aimed.{Planner, IsAimed, IsNewPlanner, first_goal, first_goals}

-- the robots below n aim at their first errands, the others at nothing
pub record AreAimedBelow (queues : List Queue) (n : ℕ) (gs : List (Option ℕ)) : Type 0 where
  pub count : length gs ≡ length queues
  pub aimed : (r : ℕ) → r < n → r < length queues → get_or gs r None ≡ first_goal queues r
  pub idle : (r : ℕ) → n ≤ r → r < length queues → get_or gs r None ≡ None

replicate_none : (n r : ℕ) → slice_index_or (replicate {A = Option ℕ} n None) r None ≡ None
replicate_none zero r = refl
replicate_none (suc n) zero = refl
replicate_none (suc n) (suc r) = replicate_none n r

pub aimed-none : (queues : List Queue) (aims : Courses) → goals_of aims ≡ replicate (length queues) None → AreAimedBelow queues 0 (goals_of aims)
aimed-none queues aims none = record {
  count = ap length none ∙ length-replicate (length queues) None;
  aimed = λ r l known. absurd (omega (arith, l));
  idle = λ r l known. ap (λ (gs : List (Option ℕ)). get_or gs r None) none ∙ replicate_none (length queues) r;
}

pub none-count : (n : ℕ) (aims : Courses) → goals_of aims ≡ replicate n None → length (goals_of aims) ≡ n
none-count n aims none = ap length none ∙ length-replicate {A = Option ℕ} n None

-- one robot more, which has an errand
pub aimed-more : (queues : List Queue) (n : ℕ) (gs : List (Option ℕ)) (o : Option Errand) (f : Errand) → n < length queues → o ≡ slice_get (queue_at queues n).items 0 → o ≡ Some f →
    AreAimedBelow queues n gs → AreAimedBelow queues (n + 1) (slice_set gs n (Some f.cell))
aimed-more queues n gs o f less first some b = record {
  count = length-set gs n (Some f.cell) ∙ b.count;
  aimed = λ r l known. elim (cases_eq n r) [
    | inl e ↦ subst (λ k. get_or (slice_set gs n (Some f.cell)) k None ≡ first_goal queues k) e
        (get_or-set_same gs n (Some f.cell) None (let c = b.count in omega (arith, less, c)) ∙ ap cell_of (sym some ∙ first))
    | inr ne ↦ get_or-set_other gs n r (Some f.cell) None (λ e. ne (sym e)) ∙ b.aimed r (omega (arith, l, ne)) known
  ];
  idle = λ r l known. get_or-set_other gs n r (Some f.cell) None (λ e. omega (arith, e, l)) ∙ b.idle r (omega (arith, l)) known;
}

-- or none
pub aimed-idle : (queues : List Queue) (n : ℕ) (gs : List (Option ℕ)) (o : Option Errand) → o ≡ slice_get (queue_at queues n).items 0 → o ≡ None →
    AreAimedBelow queues n gs → AreAimedBelow queues (n + 1) gs
aimed-idle queues n gs o first none b = record {
  count = b.count;
  aimed = λ r l known. elim (cases_eq n r) [
    | inl e ↦ subst (λ k. get_or gs k None ≡ first_goal queues k) e (b.idle n (omega arith) (omega (arith, e, known)) ∙ ap cell_of (sym none ∙ first))
    | inr ne ↦ b.aimed r (omega (arith, l, ne)) known
  ];
  idle = λ r l known. b.idle r (omega (arith, l)) known;
}

pub aimed-all : (queues : List Queue) (n : ℕ) (gs : List (Option ℕ)) → length queues ≤ n → AreAimedBelow queues n gs → gs ≡ first_goals queues
aimed-all queues n gs all b = listed None (length queues) (first_goal queues) gs b.count (λ r l. b.aimed r (omega (arith, l, all)) l)

module _ {A : Type 0} {m : Floor} {h : History A} {s : State A} (k : IsStateOf m h s) where
  -- a first errand's cell is floor
  pub first-floor : (r : ℕ) (f : Errand) → r < length s.queues → front h r ≡ Some f → IsFloor m f.cell
  first-floor r f l is = (front-reach m h r f k.legal (omega (arith, l, queue-count k)) is).floor

  -- the goals that the queues give are those of the history
  pub first-goals : first_goals s.queues ≡ goals h
  first-goals =
      ap (λ n. map (first_goal s.queues) (range_with_len 0 n)) (queue-count k)
      ∙ same-by None (robots h) (first_goal s.queues) (λ r. cell_of (front h r)) (λ r l. ap (λ (u : List Errand). cell_of (slice_get u 0)) (items-of k r l))

  -- a new planner whose robots got these goals is that of the history
  pub aimed-first : {p q : Planner} → IsNewPlanner m (length s.queues) p → goals_of q.aims ≡ first_goals s.queues → AreOn m q.aims →
      q.size ≡ p.size → q.bridgeless ≡ p.bridgeless → Keeps m q.kept → IsAimed m h q
  aimed-first new same on size bridge kept = record {
    aimed = same ∙ first-goals;
    on = on;
    sized = size ∙ new.size ∙ ap (λ (n : ℕ). record { cells = length m.letters; robots = n }) (queue-count k);
    bridge = subst (λ b. IsTrue b ↔ IsBridgeless (IsNeighbour m)) (sym bridge) new.bridge;
    kept = kept;
  }
