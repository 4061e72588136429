-- What is kept after a further step.
use Rattle.std.proofs.Common.{◌≡◌, ◌≢◌, ℕ, ◌+◌, ◌-◌, ◌<◌, ◌≤◌, ◌⊎◌, inl, inr, List, Option, Some, None, get_or, sym, ◌∙◌, ap, subst, arith}
use Rattle.std.proofs.lemmas.Bool.{cases_lt}
use Rattle.execution_law.specs.Run.{Plan, IsConflictFree, Moves}
use Rattle.execution_law.specs.Rule.{IsLawful}
use Rattle.execution_law.proofs.Kept.{planned_lawful}
use Rattle.fleet_execution.specs.declared.robot.Leave.{Leave}
use Rattle.fleet_execution.specs.declared.robot.Planned.{Planned}
use Rattle.fleet_execution.specs.Course.{Course, longer}
use Rattle.fleet_execution.specs.Desk.{Desk}
use Rattle.fleet_execution.specs.Executes.{IsLast, IsLastLeave, IsKept, IsStep, Executes}
use Rattle.fleet_execution.specs.Stepped.{IsMover, AreNoted}
use Rattle.fleet_execution.proofs.Longer.{cell_old, cell_new, extends, leaves_on, leaves_back}

abbrev leave_at : ℕ → ℕ → Leave
leave_at r t = record { robot = r; step = t }

-- the window after the step
pub record IsWindowed (d : Desk) (to : List ℕ) (l : ℕ → Option Leave) (w : ℕ → ℕ → Planned) : Type 0 where
  pub to_now : (r : ℕ) → r < d.count → (w r (d.steps + 1)).to ≡ get_or to r 0
  pub after_now : (r : ℕ) → r < d.count → (w r (d.steps + 1)).after ≡ l (get_or to r 0)
  pub to_old : (r t : ℕ) → r < d.count → IsKept d.ahead (d.steps + 1) t → t ≤ d.steps → (w r t).to ≡ (d.window r t).to
  pub after_old : (r t : ℕ) → r < d.count → IsKept d.ahead (d.steps + 1) t → t ≤ d.steps → (w r t).after ≡ (d.window r t).after
  pub told : (p : ℕ) (v : Leave) → p < d.count → IsMover d to p → l (get_or to p 0) ≡ Some v → IsKept d.ahead (d.steps + 1) v.step → (w v.robot v.step).follower ≡ Some p
  pub told_old : (q e : ℕ) → q < d.count → IsKept d.ahead (d.steps + 1) e → e ≤ d.steps → ((w q e).follower ≡ (d.window q e).follower)
      ⊎ ((p : ℕ) × (p < d.count) × IsMover d to p × (l (get_or to p 0) ≡ Some (record { robot = q; step = e })))

module _ (d : Desk) (o : Course) (x : Executes d o) (to : List ℕ) (step : IsStep d to) where
  plan : Plan
  plan = o.run.plan

  in_robots : (r : ℕ) → r < o.run.plan.robots → r < d.count
  in_robots r inside = omega (arith, x.robots, inside)

  last_is : (r : ℕ) → r < o.run.plan.robots → (d.robot r).last ≡ o.run.plan.cell o.run.plan.steps r
  last_is r inside = (x.tracked r inside).last

  pub cell_last : (r t : ℕ) → r < o.run.plan.robots → o.run.plan.steps < t → t ≤ o.run.plan.steps + 1 → (longer o.run.plan to).cell (t - 1) r ≡ (d.robot r).last
  cell_last r t inside later small =
      let z : t - 1 ≡ o.run.plan.steps = omega arith in
      cell_old o.run.plan to (t - 1) r (omega arith) ∙ (ap (λ (k : ℕ). o.run.plan.cell k r) z ∙ sym (last_is r inside))

  pub free_longer : IsConflictFree (longer o.run.plan to)
  free_longer = record {
    distinct = λ t r q small r_in q_in same. elim (cases_lt o.run.plan.steps t) [
      | inl new ↦ step.distinct r q (in_robots r r_in) (in_robots q q_in) (sym (cell_new o.run.plan to t r new) ∙ (same ∙ cell_new o.run.plan to t q new))
      | inr old ↦ x.course.lawful.free_of_conflicts.distinct t r q old r_in q_in (sym (cell_old o.run.plan to t r old) ∙ (same ∙ cell_old o.run.plan to t q old))
    ];
    no_swap = λ t r q some small r_in q_in there back. elim (cases_lt o.run.plan.steps t) [
      | inl new ↦ step.no_swap r q (in_robots r r_in) (in_robots q q_in) (sym (cell_new o.run.plan to t r new) ∙ (there ∙ cell_last q t q_in new small))
          (sym (cell_new o.run.plan to t q new) ∙ (back ∙ cell_last r t r_in new small))
      | inr old ↦ x.course.lawful.free_of_conflicts.no_swap t r q some old r_in q_in
          (sym (cell_old o.run.plan to t r old) ∙ (there ∙ cell_old o.run.plan to (t - 1) q (omega arith)))
          (sym (cell_old o.run.plan to t q old) ∙ (back ∙ cell_old o.run.plan to (t - 1) r (omega arith)))
    ];
  }

  pub lawful_longer : IsLawful (record o.run { plan = longer o.run.plan to })
  lawful_longer = planned_lawful o.run (o.run.plan.steps + 1) (longer o.run.plan to).cell x.course.lawful (extends o.run.plan to) free_longer

  -- a robot moves in the new step
  pub mover : (r t : ℕ) → r < o.run.plan.robots → o.run.plan.steps < t → t ≤ o.run.plan.steps + 1 → Moves (longer o.run.plan to) r t → get_or to r 0 ≢ (d.robot r).last
  mover r t inside new small moves same = moves.other (cell_new o.run.plan to t r new ∙ (same ∙ sym (cell_last r t inside new small)))

  pub moves_new : (r t : ℕ) → r < o.run.plan.robots → o.run.plan.steps < t → t ≤ o.run.plan.steps + 1 → get_or to r 0 ≢ (d.robot r).last → Moves (longer o.run.plan to) r t
  moves_new r t inside new small other = record {
    later = omega arith;
    other = λ same. other (sym (cell_new o.run.plan to t r new) ∙ (same ∙ cell_last r t inside new small));
  }

  -- a last leave stays
  pub last_on : (t c : ℕ) (a : Option Leave) → t ≤ o.run.plan.steps → IsLastLeave o.run.plan t c a → IsLastLeave (longer o.run.plan to) t c a
  last_on t c None small none = λ q e inside early leaves. none q e inside early (leaves_back o.run.plan to q e c (omega arith) inside leaves)
  last_on t c (Some v) small last = record {
    inside = last.inside;
    leaves = leaves_on o.run.plan to v.robot v.step c (omega (arith, last.early)) last.inside last.leaves;
    early = last.early;
    last = λ q e inside early leaves. last.last q e inside early (leaves_back o.run.plan to q e c (omega arith) inside leaves);
  }

  -- and up to the new step, if nobody leaves the cell in it
  last_further : (c : ℕ) (a : Option Leave) → ((r : ℕ) → r < d.count → get_or to r 0 ≢ (d.robot r).last → (d.robot r).last ≢ c) → IsLastLeave o.run.plan o.run.plan.steps c a
      → IsLastLeave (longer o.run.plan to) (o.run.plan.steps + 1) c a
  last_further c None nobody none = λ q e inside early leaves. elim (cases_lt o.run.plan.steps e) [
    | inr old ↦ none q e inside old (leaves_back o.run.plan to q e c old inside leaves)
    | inl new ↦ nobody q (in_robots q inside) (mover q e inside new early leaves.moves) (sym (cell_last q e inside new early) ∙ leaves.cell)
  ]
  last_further c (Some v) nobody last = record {
    inside = last.inside;
    leaves = leaves_on o.run.plan to v.robot v.step c last.early last.inside last.leaves;
    early = omega (arith, last.early);
    last = λ q e inside early leaves. elim (cases_lt o.run.plan.steps e) [
      | inr old ↦ last.last q e inside old (leaves_back o.run.plan to q e c old inside leaves)
      | inl new ↦ absurd (nobody q (in_robots q inside) (mover q e inside new early leaves.moves) (sym (cell_last q e inside new early) ∙ leaves.cell))
    ];
  }

  module _ (l : ℕ → Option Leave) (noted : AreNoted d to l) where
    pub left_now : (c : ℕ) → c < d.cells → IsLastLeave (longer o.run.plan to) (o.run.plan.steps + 1) c (l c)
    left_now c inside = elim (noted c inside) [
      | inr same ↦ subst (λ (a : Option Leave). IsLastLeave (longer o.run.plan to) (o.run.plan.steps + 1) c a) (sym same.1) (last_further c (d.leave c) same.0 (x.knows.left c inside))
      | inl now ↦ (
          let r = now.0 in
          let r_in : now.0 < o.run.plan.robots = omega (arith, x.robots, now.1) in
          let z : d.steps + 1 ≡ o.run.plan.steps + 1 = omega (arith, x.steps) in
          let last : IsLast (longer o.run.plan to) (o.run.plan.steps + 1) c (record { robot = now.0; step = o.run.plan.steps + 1 }) = record {
            inside = r_in;
            leaves = record {
              moves = moves_new now.0 (o.run.plan.steps + 1) r_in (omega arith) (omega arith) now.2;
              cell = cell_last now.0 (o.run.plan.steps + 1) r_in (omega arith) (omega arith) ∙ now.3;
            };
            early = omega arith;
            last = λ q e inside early leaves. early;
          } in
          let is : l c ≡ Some (record { robot = now.0; step = o.run.plan.steps + 1 }) = now.4 ∙ ap (λ (k : ℕ). Some (leave_at now.0 k)) z in
          subst (λ (a : Option Leave). IsLastLeave (longer o.run.plan to) (o.run.plan.steps + 1) c a) (sym is) last)
    ]
