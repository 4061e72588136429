-- Answers to what is asked, from what the code found.
use Rattle.std.proofs.Common.{◌≡◌, ◌≢◌, ℕ, ◌+◌, ◌<◌, ◌≤◌, inl, inr, Option, Some, None, sym, ◌∙◌, ap, subst, arith}
use Rattle.std.proofs.lemmas.Bool.{cases_eq, cases_lt}
use Rattle.execution_law.specs.Run.{Turns}
use Rattle.execution_law.specs.Rule.{MayBeginAlone, MayBegin}
use Rattle.fleet_execution.specs.declared.robot.Robot.{Robot}
use Rattle.fleet_execution.specs.declared.robot.Leave.{Leave}
use Rattle.fleet_execution.specs.declared.robot.Turning.{Turning}
use Rattle.fleet_execution.specs.Course.{Course}
use Rattle.fleet_execution.specs.Desk.{Desk, leaver, before_in, chain}
use Rattle.fleet_execution.specs.Executes.{IsLast, IsLastLeave, AreReturned, IsTurningOf, Executes}
use Rattle.fleet_execution.specs.Asked.{IsNextIn, IsFreeIn, HasEndedIn, IsRing, MayAllTurn}
use Rattle.fleet_execution.proofs.Chains.{round}
use Rattle.fleet_execution.proofs.Asked.{kept_at, next_from, next_to, free_from, free_to}
use Rattle.fleet_execution.proofs.Ready.{after_is, clear_from, clear_to, ring, turn_to, turn_ring}
use Rattle.fleet_execution.proofs.Begun.{free_of_may, next_of_may}

-- where no cycle is on its way
pub all_of : (o : Course) (k : Option Turning) → k ≡ None → IsTurningOf o k → AreReturned o
all_of o k nobody turning = subst (λ (y : Option Turning). IsTurningOf o y) nobody turning

pub before_link : (d : Desk) (t q : ℕ) (l : Leave) → (d.window q t).after ≡ Some l → before_in d.window t q ≡ l.robot
before_link d t q l is = ap (λ (a : Option Leave). leaver a q) is

-- a robot has one next move
pub next_only : (d : Desk) (r n t : ℕ) → (n ≡ 0 → (u : ℕ) → IsNextIn d r u → ⊥) → (n ≢ 0 → IsNextIn d r n) → IsNextIn d r t → n ≡ t
next_only d r n t none some next = elim (cases_eq n 0) [
  | inl zero_is ↦ absurd (none zero_is t next)
  | inr more ↦ (
      let mine = some more in
      elim (cases_lt n t) [
        | inl less ↦ absurd (mine.other (next.first n mine.after mine.late less))
        | inr late ↦ elim (cases_lt t n) [
          | inl less ↦ absurd (next.other (mine.first t next.after next.late less))
          | inr same ↦ omega (arith, late, same)
        ]
      ])
]

module _ (d : Desk) (o : Course) (x : Executes d o) where
  -- the robots that turned with one that stands, as they are kept
  pub turned_ring : (r : ℕ) (s : Robot) → r < d.count → s ≡ d.robot r → s.returned ≡ s.reached → s.turned ≡ s.reached → 0 < s.reached → d.steps < s.reached + d.ahead → IsRing d s.reached r
  turned_ring r s inside is stands turned some late =
      let r_in : r < o.run.plan.robots = omega (arith, inside, x.robots) in
      let k = x.tracked r r_in in
      let at : s.reached ≡ o.returned r = sym stands ∙ (ap (λ (y : Robot). y.returned) is ∙ k.returned) in
      let v : (d.robot r).turned ≡ o.returned r = sym (ap (λ (y : Robot). y.turned) is) ∙ (turned ∙ at) in
      let turns : Turns o.run.plan s.reached r = subst (λ (y : ℕ). Turns o.run.plan y r) (sym at) (k.turned (omega (arith, some, at)) v) in
      let kept = kept_at d o x s.reached some (omega (arith, at, x.course.high r r_in, x.course.lawful.within r r_in, x.steps)) late in
      ring d o x r s.reached r_in kept turns

  module _ (all : AreReturned o) (r t : ℕ) (inside : r < d.count) where
    r_in : r < o.run.plan.robots
    r_in = omega (arith, inside, x.robots)

    pub link_inside : IsNextIn d r t → (l : Leave) → (d.window r t).after ≡ Some l → l.robot < d.count
    link_inside next l is =
        let last : IsLast o.run.plan t (o.run.plan.cell t r) l = subst (λ (a : Option Leave). IsLastLeave o.run.plan t (o.run.plan.cell t r) a) is
        (after_is d o x r t r_in (next_from d o x r r_in (all r r_in) t next)) in
        omega (arith, last.inside, x.robots)

    pub alone_from : IsNextIn d r t → IsFreeIn d r → HasEndedIn d (d.window r t).after → MayBeginAlone o.run r t
    alone_from next free ended =
        let n = next_from d o x r r_in (all r r_in) t next in
        record { free = free_from d o x r r_in (all r r_in) free; next = n; clear = clear_from d o x r t r_in n ended }

    pub none_next : ((u : ℕ) → IsNextIn d r u → ⊥) → MayBegin o.run r t → ⊥
    none_next none may = none t (next_to d o x r r_in (all r r_in) t (next_of_may o.run r t may))

    pub none_free : (IsFreeIn d r → ⊥) → MayBegin o.run r t → ⊥
    none_free none may = none (free_to d o x r r_in (all r r_in) (free_of_may o.run r t may))

    pub none_begins : (n : ℕ) → IsNextIn d r n → (HasEndedIn d (d.window r n).after → ⊥) → (MayAllTurn d n r → ⊥) → MayBegin o.run r t → ⊥
    none_begins n next closed alone may =
        let mine = next_to d o x r r_in (all r r_in) t (next_of_may o.run r t may) in
        let same : n ≡ t = next_only d r n t (λ zero_is. absurd (omega (arith, zero_is, next.after))) (λ more. next) mine in
        elim may [
          | inl by_itself ↦ closed (subst (λ (u : ℕ). HasEndedIn d (d.window r u).after) (sym same) (clear_to d o x r t r_in by_itself.next all by_itself.clear))
          | inr turn ↦ alone (subst (λ (u : ℕ). MayAllTurn d u r) (sym same) (turn_ring d o x r t r_in all turn, turn_to d o x r t r_in all turn))
        ]

-- those that turned with the robot: the chain has come back, and all on it have reached their cells
pub all_reached : (d : Desk) (t r size : ℕ) → 0 < size → chain (before_in d.window t) r size ≡ r → t ≤ (d.robot r).reached
    → ((j : ℕ) → 0 < j → j < size → t ≤ (d.robot (chain (before_in d.window t) r j)).reached) → (k : ℕ) → t ≤ (d.robot (chain (before_in d.window t) r k)).reached
all_reached d t r size some again own each k =
    let at = round (before_in d.window t) r size some again k in
    let there : t ≤ (d.robot (chain (before_in d.window t) r at.place)).reached = elim (cases_eq at.place 0) [
      | inl zero_is ↦ subst (λ (j : ℕ). t ≤ (d.robot (chain (before_in d.window t) r j)).reached) (sym zero_is) own
      | inr more ↦ each at.place (omega arith) at.below
    ] in
    subst (λ (q : ℕ). t ≤ (d.robot q).reached) (sym at.same) there
