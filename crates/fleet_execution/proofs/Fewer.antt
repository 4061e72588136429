-- Each move that is returned leaves fewer steps.
use Rattle.std.proofs.Common.{◌≡◌, ◌≢◌, ℕ, zero, suc, ◌-◌, ◌<◌, ◌≤◌, inl, inr, Option, Some, None, IfSome, refl, sym, ◌∙◌, ap, subst, arith}
use Rattle.std.proofs.lemmas.Bool.{cases_eq, cases_lt}
use Rattle.execution_law.specs.Run.{Plan}
use Rattle.fleet_execution.specs.declared.motion.Move.{Move}
use Rattle.fleet_execution.specs.declared.state.State.{State}
use Rattle.fleet_execution.specs.Course.{Course, put}
use Rattle.fleet_execution.specs.Desk.{Desk, total_below, steps_left}
use Rattle.fleet_execution.specs.Executes.{Executes}
use Rattle.fleet_execution.specs.State.{desk_of, IsSound}
use Rattle.fleet_execution.specs.Given.{Gives}
use Rattle.fleet_execution.proofs.Begun.{next_of_may}
use Rattle.fleet_execution.proofs.Put.{put_same, put_other}

total_same : (n : ℕ) (f g : ℕ → ℕ) → ((k : ℕ) → k < n → f k ≡ g k) → total_below n f ≡ total_below n g
total_same zero f g same = refl
total_same (suc n) f g same = omega (arith, same n (omega arith), total_same n f g (λ k small. same k (omega arith)))

total_less : (n i : ℕ) (f g : ℕ → ℕ) → i < n → f i < g i → ((k : ℕ) → k < n → k ≢ i → f k ≡ g k) → total_below n f < total_below n g
total_less zero i f g inside less same = absurd (omega arith)
total_less (suc n) i f g inside less same = elim (cases_eq n i) [
  | inl here ↦ (
      let at : f n < g n = subst (λ (k : ℕ). f k < g k) (sym here) less in
      omega (arith, at, total_same n f g (λ k small. same k (omega arith) (λ e. absurd (omega (arith, e, here, small))))))
  | inr other ↦ (
      let below : i < n = elim (cases_lt i n) [ inl small ↦ small | inr at ↦ absurd (other (omega (arith, at, inside))) ] in
      omega (arith, same n (omega arith) other, total_less n i f g below less (λ k small apart. same k (omega arith) apart)))
]

module _ (d e : Desk) (o p : Course) (x : Executes d o) (y : Executes e p) (plan : p.run.plan ≡ o.run.plan) (r t : ℕ) (inside : r < o.run.plan.robots) (late : o.returned r < t) (planned : t ≤ o.run.plan.steps)
    (returned : (q : ℕ) → p.returned q ≡ put o.returned r t q) where
  count : e.count ≡ d.count
  count = sym y.robots ∙ (ap (λ (k : Plan). k.robots) plan ∙ x.robots)

  steps : e.steps ≡ d.steps
  steps = sym y.steps ∙ (ap (λ (k : Plan). k.steps) plan ∙ x.steps)

  now : (q : ℕ) → q < d.count → (e.robot q).returned ≡ put o.returned r t q
  now q small = (y.tracked q (omega (arith, small, count, y.robots))).returned ∙ returned q

  was : (q : ℕ) → q < d.count → (d.robot q).returned ≡ o.returned q
  was q small = (x.tracked q (omega (arith, small, x.robots))).returned

  pub fewer : steps_left e < steps_left d
  fewer =
      let at : r < d.count = omega (arith, inside, x.robots) in
      let less : total_below d.count (λ q. e.steps - (e.robot q).returned) < total_below d.count (λ q. d.steps - (d.robot q).returned) =
      total_less d.count r (λ q. e.steps - (e.robot q).returned) (λ q. d.steps - (d.robot q).returned) at
      (omega (arith, now r at, put_same o.returned r t r refl, was r at, steps, late, planned, x.steps))
      (λ q small other. omega (arith, now q small, put_other o.returned r t q other, was q small, steps)) in
      subst (λ (n : ℕ). total_below n (λ q. e.steps - (e.robot q).returned) < steps_left d) (sym count) less

pub fewer_left : {A : Type 0} (s t : State A) (result : Option Move) → IsSound s → IfSome result (λ m. (o : Course) → Executes (desk_of s) o → Gives o m (desk_of t))
    → IfSome result (λ _. steps_left (desk_of t) < steps_left (desk_of s))
fewer_left s t None sound some = tt
fewer_left s t (Some m) sound some =
    let gives = some sound.course sound.executes in
    elim gives.2 [
      | inl begins ↦ fewer (desk_of s) (desk_of t) sound.course _ sound.executes begins.3 refl m.robot m.tick gives.0.inside gives.1
          (next_of_may sound.course.run m.robot m.tick begins.2.may).planned (λ q. refl)
      | inr passes ↦ fewer (desk_of s) (desk_of t) sound.course _ sound.executes passes.1 refl m.robot m.tick gives.0.inside gives.1
          (omega (arith, passes.0, sound.executes.course.lawful.within m.robot gives.0.inside)) (λ q. refl)
    ]
