-- The beginning of an execution.
use Rattle.std.proofs.Common.{◌≡◌, ℕ, ◌%◌, ◌<◌, inl, inr, List, [], Option, Some, None, length, get_or, replicate, refl, sym, ap, subst, arith}
use Rattle.std.proofs.lemmas.Bool.{cases_lt}
use Rattle.std.proofs.lemmas.List.{length-replicate, get_or-replicate, get_or_past}
use Rattle.execution_law.specs.Run.{IsConflictFree}
use Rattle.execution_law.specs.Change.{opened}
use Rattle.execution_law.proofs.Kept.{opened_lawful}
use Rattle.fleet_execution.specs.declared.robot.Robot.{Robot}
use Rattle.fleet_execution.specs.declared.robot.Leave.{Leave}
use Rattle.fleet_execution.specs.Course.{placed, course_at}
use Rattle.fleet_execution.specs.Desk.{Desk}
use Rattle.fleet_execution.specs.Executes.{IsLastLeave, Executes}
use Rattle.fleet_execution.specs.State.{standing_on}
use Rattle.fleet_execution.proofs.Rings.{turns_moves}
use Rattle.fleet_execution.proofs.Begun.{next_of_may}

pub repeated : {X : Type 0} (n k : ℕ) (v : X) → get_or (replicate n v) k v ≡ v
repeated n k v = elim (cases_lt k n) [
  | inl inside ↦ get_or-replicate n k v v inside
  | inr past ↦ get_or_past (replicate n v) k v (omega (arith, past, length-replicate n v))
]

module _ (d : Desk) (cells : List ℕ) (count : length cells ≡ d.count) (steps : d.steps ≡ 0) (turning : d.turning ≡ None) (ready : d.ready ≡ [])
    (robot : (r : ℕ) → r < length cells → d.robot r ≡ standing_on (get_or cells r 0)) (leave : (c : ℕ) → d.leave c ≡ None) (unreached : (k : ℕ) → d.unreached k ≡ 0)
    (distinct : (r q : ℕ) → r < length cells → q < length cells → get_or cells r 0 ≡ get_or cells q 0 → r ≡ q) (inside : (r : ℕ) → r < length cells → get_or cells r 0 < d.cells) where
  free : IsConflictFree (placed cells)
  free = record { distinct = λ t r q small r_in q_in same. distinct r q r_in q_in same; no_swap = λ t r q some small. absurd (omega arith) }

  pub opened_executes : Executes d (course_at d.clearance cells)
  opened_executes = record {
    clearance = refl;
    robots = count;
    steps = sym steps;
    course = record {
      lawful = opened_lawful d.clearance (placed cells) free;
      one = λ r t r_in moves less. absurd (omega arith);
      low = λ r r_in. omega arith;
      high = λ r r_in. omega arith;
    };
    knows = record {
      to = λ r t r_in kept. absurd (omega (arith, kept.some, kept.planned));
      after = λ r t r_in kept moves. absurd (omega (arith, kept.some, kept.planned));
      follower = λ r t l r_in kept moves is l_kept. absurd (omega (arith, kept.some, kept.planned));
      left = λ c c_in. subst (λ (a : Option Leave). IsLastLeave (placed cells) 0 c a) (sym (leave c)) (λ q e q_in early leaves. omega (arith, early, leaves.moves.later));
      inside = λ r t r_in small. inside r r_in;
    };
    tracked = λ r r_in. (
        let is = robot r r_in in
        record {
          reached = ap (λ (s : Robot). s.reached) is;
          returned = ap (λ (s : Robot). s.returned) is;
          cell = ap (λ (s : Robot). s.cell) is;
          bound = ap (λ (s : Robot). s.bound) is;
          last = ap (λ (s : Robot). s.last) is;
          turned_before = omega (arith, ap (λ (s : Robot). s.turned) is);
          turned = λ some. absurd (omega arith);
          straight = λ turns. absurd (omega (arith, (turns_moves (placed cells) 0 r turns).later));
        });
    turning = none_turns d.turning turning;
    counts = record {
      kept = λ t kept. absurd (omega (arith, kept.some, kept.planned));
      blank = λ t later small. unreached (t % d.ahead);
      old = λ r t r_in moves early. absurd (omega (arith, early, moves.later));
    };
    completes = λ r t r_in none may. (let next = next_of_may (opened d.clearance (placed cells)) r t may in omega (arith, next.planned, next.begins));
  }
    where
      none_turns : (k : Option Rattle.fleet_execution.specs.declared.robot.Turning.Turning) → k ≡ None → Rattle.fleet_execution.specs.Executes.IsTurningOf (course_at d.clearance cells) k
      none_turns None is = λ r r_in. refl
      none_turns (Some k) is = cc
