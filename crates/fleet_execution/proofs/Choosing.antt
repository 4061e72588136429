-- Robots at the front of the queue that may not begin.
use Rattle.std.proofs.Common.{◌≡◌, ℕ, ◌<◌, List, [], ◌∷◌, drop, Some, None, slice_get, length, ◌∙◌, subst, arith}
use Rattle.execution_law.specs.Rule.{MayBegin}
use Rattle.fleet_execution.specs.Course.{Course}
use Rattle.fleet_execution.specs.Desk.{Desk}
use Rattle.fleet_execution.specs.Queue.{Line}
use Rattle.fleet_execution.specs.declared.state.State.{State}
use Rattle.fleet_execution.specs.Executes.{AreReturned, IsIn, Executes}
use Rattle.fleet_execution.specs.State.{desk_of, IsSized}
use Rattle.fleet_execution.specs.Given.{MayNotBegin}
use Rattle.fleet_execution.proofs.Queues.{first_or_rest}
use Rattle.fleet_execution.proofs.Answered.{all_of}
use Rattle.fleet_execution.proofs.Begun.{completes_without}

pub dropped : (d : Desk) (o : Course) (r : ℕ) (ready : List ℕ) → Executes d o → AreReturned o → slice_get d.ready 0 ≡ Some r → MayNotBegin d r → ready ≡ drop 1 d.ready → Executes (record d { ready = ready }) o
dropped d o r ready x all first not is = record {
  clearance = x.clearance;
  robots = x.robots;
  steps = x.steps;
  course = x.course;
  knows = x.knows;
  tracked = x.tracked;
  turning = x.turning;
  counts = x.counts;
  completes = rw is (completes_without d o x r (drop 1 d.ready) (λ q has. first_or_rest d.ready r q first has) (not o x all));
}

-- the state with another queue
pub sized_ready : {A : Type 0} (s : State A) (q : Line) → IsSized s → q.robots ≡ s.ready.robots → IsSized (record s { ready = q })
sized_ready s q z same = record { some = z.some; robots = z.robots; window = z.window; unreached = z.unreached; ready = same ∙ z.ready; marks = z.marks; small = z.small }

pub dropped_state : {A : Type 0} (s : State A) (q : Line) (r : ℕ) → s.turning ≡ None → slice_get s.ready.items 0 ≡ Some r → MayNotBegin (desk_of s) r → q.items ≡ drop 1 s.ready.items
    → (o : Course) → Executes (desk_of s) o → Executes (desk_of (record s { ready = q })) o
dropped_state s q r idle first not is o x = dropped (desk_of s) o r q.items x (all_of o s.turning idle x.turning) first not is

pub shorter : (xs : List ℕ) (r : ℕ) → slice_get xs 0 ≡ Some r → length (drop 1 xs) < length xs
shorter [] r is = cc
shorter (x ∷ xs) r is = omega arith

-- with an empty queue nothing may begin
pub none_ready : (d : Desk) (o : Course) → Executes d o → d.ready ≡ [] → (r t : ℕ) → r < o.run.plan.robots → MayBegin o.run r t → ⊥
none_ready d o x nobody r t inside may = x.completes r t inside (λ q with_it has. none q (subst (λ (xs : List ℕ). IsIn xs q) nobody has)) may
  where
    none : (q : ℕ) → IsIn [] q → ⊥
    none q has = cc

-- with more in the queue
pub more_ready : {A : Type 0} (s : State A) (q : Line) (o : Course) → Executes (desk_of s) o → ((y : ℕ) → IsIn s.ready.items y → IsIn q.items y) → Executes (desk_of (record s { ready = q })) o
more_ready s q o x more = record {
  clearance = x.clearance;
  robots = x.robots;
  steps = x.steps;
  course = x.course;
  knows = x.knows;
  tracked = x.tracked;
  turning = x.turning;
  counts = x.counts;
  completes = λ r t inside none may. x.completes r t inside (λ y with_it has. none y with_it (more y has)) may;
}
