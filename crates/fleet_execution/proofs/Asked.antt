-- What is asked of what is kept, and the rule.
use Rattle.std.proofs.Common.{◌≡◌, ℕ, zero, suc, ◌+◌, ◌-◌, ◌<◌, ◌≤◌, inl, inr, sym, ◌∙◌, ap, subst, arith}
use Rattle.std.proofs.lemmas.Bool.{cases_eq, cases_lt}
use Rattle.execution_law.specs.Run.{IsConflictFree, Moves, IsMate, Turns}
use Rattle.execution_law.specs.Rule.{IsFree, IsNext}
use Rattle.execution_law.proofs.Cycles.{append, turns_on, mate_of_mate, mate_turns, before_it}
use Rattle.execution_law.proofs.Visits.{stays}
use Rattle.fleet_execution.specs.Course.{Course}
use Rattle.fleet_execution.specs.Desk.{Desk, before_in, chain}
use Rattle.fleet_execution.specs.Executes.{IsKept, Executes}
use Rattle.fleet_execution.specs.Asked.{IsNextIn, IsFreeIn}
use Rattle.fleet_execution.proofs.Rings.{member, on, turns_moves}

module _ (d : Desk) (o : Course) (x : Executes d o) where
  pub kept_at : (t : ℕ) → 0 < t → t ≤ d.steps → d.steps < t + d.ahead → IsKept d.ahead o.run.plan.steps t
  kept_at t some planned late = record { some = some; planned = omega (arith, x.steps, planned); late = omega (arith, x.steps, late) }

  pub free_of_conflicts : IsConflictFree o.run.plan
  free_of_conflicts = x.course.lawful.free_of_conflicts

  -- a move before the steps that are kept was reached
  pub late_from : (r t : ℕ) → r < o.run.plan.robots → Moves o.run.plan r t → o.run.reached r < t → d.steps < t + d.ahead
  late_from r t inside moves waits = elim (cases_lt d.steps (t + d.ahead)) [
    | inl less ↦ less
    | inr old ↦ absurd (omega (arith, waits, x.counts.old r t inside moves (omega (arith, x.steps, old))))
  ]

  module _ (r : ℕ) (inside : r < o.run.plan.robots) (all : o.returned r ≡ o.run.begun r) where
    returned_is : (d.robot r).returned ≡ o.run.begun r
    returned_is = (x.tracked r inside).returned ∙ all

    bound_is : (d.robot r).bound ≡ o.run.plan.cell (o.run.begun r) r
    bound_is = (x.tracked r inside).bound ∙ ap (λ (k : ℕ). o.run.plan.cell k r) all

    settled : (t k : ℕ) → IsNextIn d r t → o.run.begun r + k < t → o.run.plan.cell (o.run.begun r + k) r ≡ o.run.plan.cell (o.run.begun r) r
    settled t zero next before = let z : o.run.begun r + 0 ≡ o.run.begun r = omega arith in ap (λ (k : ℕ). o.run.plan.cell k r) z
    settled t (suc k) next before =
        let u = o.run.begun r + suc k in
        let last = settled t k next (omega arith) in
        elim (cases_lt d.steps (o.run.begun r + suc k + d.ahead)) [
          | inl late ↦ (
              let to = next.first (o.run.begun r + suc k) (omega (arith, returned_is)) late before in
              sym (x.knows.to r (o.run.begun r + suc k) inside (kept_at (o.run.begun r + suc k) (omega arith) (omega (arith, next.planned)) late)) ∙ (to ∙ bound_is))
          | inr old ↦ elim (cases_eq (o.run.plan.cell (o.run.begun r + suc k) r) (o.run.plan.cell (o.run.begun r + suc k - 1) r)) [
            | inl same ↦ (let z : o.run.begun r + suc k - 1 ≡ o.run.begun r + k = omega arith in same ∙ (ap (λ (j : ℕ). o.run.plan.cell j r) z ∙ last))
            | inr other ↦ absurd (
                let moves : Moves o.run.plan r (o.run.begun r + suc k) = record { later = omega arith; other = other } in
                omega (arith, x.counts.old r (o.run.begun r + suc k) inside moves (omega (arith, x.steps, old)), x.course.low r inside, x.course.high r inside))
          ]
        ]

    settled_at : (t u : ℕ) → IsNextIn d r t → o.run.begun r ≤ u → u < t → o.run.plan.cell u r ≡ o.run.plan.cell (o.run.begun r) r
    settled_at t u next from before =
        let z : o.run.begun r + (u - o.run.begun r) ≡ u = omega arith in
        ap (λ (k : ℕ). o.run.plan.cell k r) (sym z) ∙ settled t (u - o.run.begun r) next (omega arith)

    pub next_from : (t : ℕ) → IsNextIn d r t → IsNext o.run r t
    next_from t next = record {
      planned = omega (arith, x.steps, next.planned);
      moves = record {
        later = omega (arith, next.after);
        other = λ same. next.other (
            x.knows.to r t inside (kept_at t (omega (arith, next.after)) next.planned next.late)
            ∙ (same ∙ (settled_at t (t - 1) next (omega (arith, next.after, returned_is)) (omega (arith, next.after)) ∙ sym bound_is)));
      };
      begins = omega (arith, next.after, returned_is);
      first = λ s later earlier moves. moves.other (settled_at t s next (omega arith) earlier ∙ sym (settled_at t (s - 1) next (omega arith) (omega arith)));
    }

    pub next_to : (t : ℕ) → IsNext o.run r t → IsNextIn d r t
    next_to t next =
        let late = late_from r t inside next.moves (omega (arith, next.begins, x.course.low r inside, x.course.high r inside)) in
        let here = stays o.run r t (o.run.begun r) next (omega arith) next.begins in
        record {
          planned = omega (arith, x.steps, next.planned);
          late = late;
          after = omega (arith, next.begins, returned_is);
          other = λ same. next.moves.other (
              sym (x.knows.to r t inside (kept_at t next.moves.later (omega (arith, x.steps, next.planned)) late)) ∙ (same ∙ (bound_is ∙ here)));
          first = λ u later kept before.
              x.knows.to r u inside (kept_at u (omega arith) (omega (arith, x.steps, next.planned)) kept)
              ∙ (stays o.run r t u next (omega (arith, returned_is)) before ∙ (sym here ∙ sym bound_is));
        }

    pub free_from : IsFreeIn d r → IsFree o.run r
    free_from free =
        let tracked = x.tracked r inside in
        let at : (d.robot r).reached ≡ o.run.begun r = sym free.stands ∙ returned_is in
        record {
          stands = sym at ∙ tracked.reached;
          turned = λ arrived turns q mate.
              let moves = turns_moves o.run.plan (o.run.begun r) r turns in
              let small : o.run.begun r ≤ o.run.plan.steps = x.course.lawful.within r inside in
              let q_turns = mate_turns o.run.plan (o.run.begun r) r q free_of_conflicts small turns mate in
              elim (cases_lt d.steps (o.run.begun r + d.ahead)) [
                | inr old ↦ x.counts.old q (o.run.begun r) (mate_in (o.run.begun r) q mate) (turns_moves o.run.plan (o.run.begun r) q q_turns) (omega (arith, x.steps, old))
                | inl late ↦ (
                    let kept = kept_at (o.run.begun r) moves.later (omega (arith, x.steps, small)) late in
                    let place = on o.run.plan d.ahead d.cells d.window d.leave x.knows free_of_conflicts (o.run.begun r) kept r q inside turns mate in
                    let turned : (d.robot r).turned ≡ (d.robot r).reached = tracked.straight (subst (λ (b : ℕ). Turns o.run.plan b r) (sym all) turns) ∙ (sym tracked.returned ∙ free.stands) in
                    let done = free.turned (sym x.clearance ∙ arrived) turned (omega (arith, at, moves.later)) (omega (arith, at, late)) place.place in
                    let q_is : chain (before_in d.window (d.robot r).reached) r place.place ≡ q = ap (λ (b : ℕ). chain (before_in d.window b) r place.place) at ∙ place.is in
                    let there : (d.robot r).reached ≤ (d.robot q).reached = subst (λ (y : ℕ). (d.robot r).reached ≤ (d.robot y).reached) q_is done in
                    omega (arith, there, at, (x.tracked q (mate_in (o.run.begun r) q mate)).reached))
              ];
        }
      where
        mate_in : (t q : ℕ) → IsMate o.run.plan t r q → q < o.run.plan.robots
        mate_in t q mate = Rattle.execution_law.proofs.Cycles.leads_inside o.run.plan t mate.count r q inside mate.leads

    pub free_to : IsFree o.run r → IsFreeIn d r
    free_to free =
        let tracked = x.tracked r inside in
        let at : (d.robot r).reached ≡ o.run.begun r = tracked.reached ∙ sym free.stands in
        record {
          stands = returned_is ∙ sym at;
          turned = λ arrived turned some late k.
              let b = (d.robot r).reached in
              let is : (d.robot r).reached ≡ o.returned r = at ∙ sym all in
              let turns : Turns o.run.plan (d.robot r).reached r = subst (λ (y : ℕ). Turns o.run.plan y r) (sym is) (tracked.turned (omega (arith, is, some)) (turned ∙ is)) in
              let kept = kept_at (d.robot r).reached some (omega (arith, at, x.steps, x.course.lawful.within r inside)) late in
              let m = member o.run.plan d.ahead d.cells d.window d.leave x.knows free_of_conflicts (d.robot r).reached kept r k inside turns in
              let mate : IsMate o.run.plan (o.run.begun r) r (chain (before_in d.window (d.robot r).reached) r k) = subst (λ (y : ℕ). IsMate o.run.plan y r (chain (before_in d.window (d.robot r).reached) r k)) at m.mate in
              let done = free.turned (x.clearance ∙ arrived) (subst (λ (y : ℕ). Turns o.run.plan y r) at turns) _ mate in
              omega (arith, done, at, (x.tracked _ m.inside).reached);
        }
