-- What a report wakes.
use Rattle.std.proofs.Common.{◌≡◌, ◌≢◌, ℕ, ◌<◌, ◌⊎◌, inl, inr, List, Some, refl, sym, ◌∙◌, ap, subst, arith}
use Rattle.std.proofs.lemmas.Bool.{cases_eq, cases_lt}
use Rattle.execution_law.specs.declared.clearance.Clearance.{Clearance}
use Rattle.execution_law.specs.declared.clearance.Clearance.TheVariants.{Arrived, Started}
use Rattle.execution_law.specs.Run.{Turns}
use Rattle.fleet_execution.specs.declared.robot.Robot.{Robot}
use Rattle.fleet_execution.specs.Course.{Course, put}
use Rattle.fleet_execution.specs.Desk.{Desk, before_in, chain}
use Rattle.fleet_execution.specs.Executes.{IsKept, IsIn, Wakes, Executes}
use Rattle.fleet_execution.specs.Asked.{IsRing}
use Rattle.fleet_execution.proofs.Chains.{round}
use Rattle.fleet_execution.proofs.Put.{put_other}
use Rattle.fleet_execution.proofs.Rings.{member, on, turns_moves}
use Rattle.fleet_execution.proofs.Asked.{kept_at, free_of_conflicts, late_from}
use Rattle.fleet_execution.proofs.Ready.{ring}

cases_clearance : (c : Clearance) → (c ≡ Started) ⊎ (c ≡ Arrived)
cases_clearance Started = inl refl
cases_clearance Arrived = inr refl

module _ (d : Desk) (o : Course) (x : Executes d o) (r : ℕ) (s : Robot) (inside : r < d.count) (is : d.robot r ≡ s) (under_way : s.reached ≢ s.returned) (ready : List ℕ) where
  r_in : r < o.run.plan.robots
  r_in = omega (arith, inside, x.robots)

  returned_is : s.returned ≡ o.returned r
  returned_is = sym (ap (λ (y : Robot). y.returned) is) ∙ (x.tracked r r_in).returned

  reached_is : s.reached ≡ o.run.reached r
  reached_is = sym (ap (λ (y : Robot). y.reached) is) ∙ (x.tracked r r_in).reached

  waits : o.run.reached r < s.returned
  waits = elim (cases_lt (o.run.reached r) s.returned) [
    | inl less ↦ less
    | inr more ↦ absurd (under_way (omega (arith, more, reached_is, returned_is, x.course.low r r_in)))
  ]

  -- the robot did not turn: who enters its old cell is woken
  pub wakes_straight : s.turned ≢ s.returned → (d.clearance ≡ Arrived → (f : ℕ) → f < d.count → (d.window r s.returned).follower ≡ Some f → IsIn ready f)
      → Wakes d o.run (put o.run.reached r s.returned) ready r s.returned
  wakes_straight straight woken = elim (cases_clearance d.clearance) [
    | inl started ↦ inl (x.clearance ∙ started)
    | inr arrived ↦ inr (
      x.clearance ∙ arrived,
      inr (
        λ turns. straight (sym (ap (λ (y : Robot). y.turned) is) ∙ ((x.tracked r r_in).straight (subst (λ (t : ℕ). Turns o.run.plan t r) returned_is turns) ∙ sym returned_is)),
        λ f f_in told. woken arrived f (omega (arith, f_in, x.robots)) told,
      ),
    )
  ]

  module _ (turned : s.turned ≡ s.returned) where
    turns : Turns o.run.plan s.returned r
    turns = subst (λ (t : ℕ). Turns o.run.plan t r) (sym returned_is)
        ((x.tracked r r_in).turned (omega (arith, waits, returned_is)) (ap (λ (y : Robot). y.turned) is ∙ (turned ∙ returned_is)))

    kept : IsKept d.ahead o.run.plan.steps s.returned
    kept = kept_at d o x s.returned (omega (arith, waits)) (omega (arith, returned_is, x.course.high r r_in, x.course.lawful.within r r_in, x.steps))
        (late_from d o x r s.returned r_in (turns_moves o.run.plan s.returned r turns) waits)

    pub ring_now : IsRing d s.returned r
    ring_now = ring d o x r s.returned r_in kept turns

    -- it turned: all that turned with it are woken, or one has not arrived
    pub wakes_turned : d.clearance ≡ Arrived → (size : ℕ) → (0 < size → chain (before_in d.window s.returned) r size ≡ r)
        → (size ≡ 0 → (k : ℕ) × (chain (before_in d.window s.returned) r k ≢ r) × ((d.robot (chain (before_in d.window s.returned) r k)).reached < s.returned))
        → ((j : ℕ) → j < size → IsIn ready (chain (before_in d.window s.returned) r j)) → Wakes d o.run (put o.run.reached r s.returned) ready r s.returned
    wakes_turned arrived size again none added = inr (
      x.clearance ∙ arrived,
      inl (
        turns,
        elim (cases_eq size 0) [
          | inl zero_is ↦ (
              let w = none zero_is in
              let m = member o.run.plan d.ahead d.cells d.window d.leave x.knows (free_of_conflicts d o x) s.returned kept r w.0 r_in turns in
              let z : (d.robot (chain (before_in d.window s.returned) r w.0)).reached ≡ o.run.reached (chain (before_in d.window s.returned) r w.0) = (x.tracked _ m.inside).reached in
              inr (chain (before_in d.window s.returned) r w.0, m.mate, omega (arith, put_other o.run.reached r s.returned (chain (before_in d.window s.returned) r w.0) w.1, z, w.2)))
          | inr more ↦ inl (λ q mate. (
              let some : 0 < size = omega (arith, more) in
              let place = on o.run.plan d.ahead d.cells d.window d.leave x.knows (free_of_conflicts d o x) s.returned kept r q r_in turns mate in
              let at = round (before_in d.window s.returned) r size some (again some) place.place in
              subst (λ (y : ℕ). IsIn ready y) (sym at.same ∙ place.is) (added at.place at.below)))
        ],
      ),
    )

  pub wakes_started : d.clearance ≡ Started → Wakes d o.run (put o.run.reached r s.returned) ready r s.returned
  wakes_started started = inl (x.clearance ∙ started)
