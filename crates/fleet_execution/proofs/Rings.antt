-- Who leaves the cell that a robot enters, as it is kept.
use Rattle.std.proofs.Common.{◌≡◌, ◌≢◌, ℕ, zero, suc, ◌+◌, ◌-◌, ◌<◌, ◌≤◌, Option, Some, None, refl, sym, ◌∙◌, ap, subst, inl, inr, arith}
use Rattle.std.proofs.lemmas.Bool.{cases_eq}
use Rattle.execution_law.specs.Run.{Plan, Run, IsConflictFree, Moves, Follows, Leads, IsMate, Turns}
use Rattle.execution_law.proofs.Cycles.{turns_on, mate_of_mate, before_it}
use Rattle.execution_law.proofs.Visits.{LeavesBetween, at_step, left_between}
use Rattle.fleet_execution.specs.declared.robot.Leave.{Leave}
use Rattle.fleet_execution.specs.declared.robot.Planned.{Planned}
use Rattle.fleet_execution.specs.Desk.{leaver, before_in, chain}
use Rattle.fleet_execution.specs.Executes.{IsLastLeave, IsKept, Knows}

-- robot p leaves the cell that robot r enters, in the same step
pub record IsBeforeIn (plan : Plan) (window : ℕ → ℕ → Planned) (t r p : ℕ) : Type 0 where
  pub leave : Leave
  pub after : (window r t).after ≡ Some leave
  pub step : leave.step ≡ t
  pub robot : leave.robot ≡ p

pub before_is : (plan : Plan) (window : ℕ → ℕ → Planned) (t r p : ℕ) → IsBeforeIn plan window t r p → before_in window t r ≡ p
before_is plan window t r p before = ap (λ (o : Option Leave). leaver o r) before.after ∙ before.robot

-- a robot that turns with another
pub record IsMember (plan : Plan) (t r q : ℕ) : Type 0 where
  pub inside : q < plan.robots
  pub mate : IsMate plan t r q
  pub turns : Turns plan t q

module _ (plan : Plan) (ahead cells : ℕ) (window : ℕ → ℕ → Planned) (leave : ℕ → Option Leave) (knows : Knows plan ahead cells window leave) (free : IsConflictFree plan) (t : ℕ) (kept : IsKept ahead plan.steps t) where
  found_by : (o : Option Leave) (r p : ℕ) → (window r t).after ≡ o → IsLastLeave plan t (plan.cell t r) o → p < plan.robots → Follows plan t r p → IsBeforeIn plan window t r p
  found_by None r p is none inside follows = absurd (none p t inside (omega arith) follows.leaves)
  found_by (Some l) r p is last inside follows =
      let late = last.last p t inside (omega arith) follows.leaves in
      let at : l.step ≡ t = omega (arith, late, last.early) in
      let there : plan.cell (t - 1) l.robot ≡ plan.cell t r = subst (λ (x : ℕ). plan.cell (x - 1) l.robot ≡ plan.cell t r) at last.leaves.cell in
      record {
        leave = l;
        after = is;
        step = at;
        robot = free.distinct (t - 1) l.robot p (omega (arith, kept.planned)) last.inside inside (there ∙ sym follows.leaves.cell);
      }

  pub found : (r p : ℕ) → r < plan.robots → p < plan.robots → Follows plan t r p → IsBeforeIn plan window t r p
  found r p r_in p_in follows = found_by (window r t).after r p refl (knows.after r t r_in kept follows.enters) p_in follows

  pub member : (r k : ℕ) → r < plan.robots → Turns plan t r → IsMember plan t r (chain (before_in window t) r k)
  member r zero inside turns = record { inside = inside; mate = record { count = zero; leads = refl }; turns = turns }
  member r (suc k) inside turns =
      let m = member r k inside turns in
      let q = chain (before_in window t) r k in
      let before = before_it plan t q m.turns in
      let one : before_in window t q ≡ before.robot = before_is plan window t q before.robot (found q before.robot m.inside before.is.inside before.is.follows) in
      let with_it = turns_on plan t q before.robot free kept.planned before.is.inside m.turns before.is.follows in
      let next : IsMember plan t r before.robot = record {
        inside = before.is.inside;
        mate = mate_of_mate plan t r q before.robot m.mate before.is.mate;
        turns = with_it.turns;
      } in
      subst (λ (x : ℕ). IsMember plan t r x) (sym one) next

  pub follows_next : (r k : ℕ) → r < plan.robots → Turns plan t r → Follows plan t (chain (before_in window t) r k) (chain (before_in window t) r (suc k))
  follows_next r k inside turns =
      let m = member r k inside turns in
      let q = chain (before_in window t) r k in
      let before = before_it plan t q m.turns in
      let one : before_in window t q ≡ before.robot = before_is plan window t q before.robot (found q before.robot m.inside before.is.inside before.is.follows) in
      subst (λ (x : ℕ). Follows plan t q x) (sym one) before.is.follows

  pub linked : (r k : ℕ) → r < plan.robots → Turns plan t r → IsBeforeIn plan window t (chain (before_in window t) r k) (chain (before_in window t) r (suc k))
  linked r k inside turns = found _ _ (member r k inside turns).inside (member r (suc k) inside turns).inside (follows_next r k inside turns)

  pub apart : (r i j : ℕ) → r < plan.robots → Turns plan t r → chain (before_in window t) r (suc i) ≡ chain (before_in window t) r (suc j)
      → chain (before_in window t) r i ≡ chain (before_in window t) r j
  apart r i j inside turns e =
      let a = (follows_next r i inside turns).leaves.cell in
      let b = (follows_next r j inside turns).leaves.cell in
      free.distinct t _ _ kept.planned (member r i inside turns).inside (member r j inside turns).inside (sym a ∙ (ap (plan.cell (t - 1)) e ∙ b))

  -- each robot that turns with r is on its chain
  pub record IsOn (r q : ℕ) : Type 0 where
    pub place : ℕ
    pub is : chain (before_in window t) r place ≡ q

  on_from : (n r k q : ℕ) → r < plan.robots → Turns plan t r → Leads plan t n (chain (before_in window t) r k) q → IsOn r q
  on_from zero r k q inside turns leads = record { place = k; is = leads }
  on_from (suc n) r k q inside turns leads =
      let f = follows_next r k inside turns in
      let one : leads.0 ≡ chain (before_in window t) r (suc k) = free.distinct (t - 1) leads.0 _ (omega (arith, kept.planned)) leads.1 (member r (suc k) inside turns).inside
      (leads.2.leaves.cell ∙ sym f.leaves.cell) in
      on_from n r (suc k) q inside turns (subst (λ (x : ℕ). Leads plan t n x q) one leads.3)

  pub on : (r q : ℕ) → r < plan.robots → Turns plan t r → IsMate plan t r q → IsOn r q
  on r q inside turns mate = on_from mate.count r 0 q inside turns mate.leads

-- who follows a robot that turns
pub record HasBehind (plan : Plan) (t r q : ℕ) : Type 0 where
  pub robot : ℕ
  pub inside : robot < plan.robots
  pub mate : IsMate plan t r robot
  pub follows : Follows plan t robot q

behind_from : (plan : Plan) (t n r q : ℕ) → r < plan.robots → Leads plan t (suc n) r q → HasBehind plan t r q
behind_from plan t zero r q inside leads = record {
  robot = r;
  inside = inside;
  mate = record { count = zero; leads = refl };
  follows = subst (λ (x : ℕ). Follows plan t r x) leads.3 leads.2;
}
behind_from plan t (suc n) r q inside leads =
    let b = behind_from plan t n leads.0 q leads.1 leads.3 in
    record {
      robot = b.robot;
      inside = b.inside;
      mate = record { count = suc b.mate.count; leads = (leads.0, leads.1, leads.2, b.mate.leads) };
      follows = b.follows;
    }

pub behind_it : (plan : Plan) (t r : ℕ) → r < plan.robots → Turns plan t r → HasBehind plan t r r
behind_it plan t r inside turns = behind_from plan t turns.count r r inside turns.leads

pub turns_moves : (plan : Plan) (t r : ℕ) → Turns plan t r → Moves plan r t
turns_moves plan t r turns = (before_it plan t r turns).is.follows.enters

-- a robot that was on a cell and is not has left it
left_by : (run : Run) (p c low high : ℕ) → low ≤ high → run.plan.cell low p ≡ c → run.plan.cell high p ≢ c → LeavesBetween run p low high c
left_by run p c low high up there gone =
    let z : low + (high - low) ≡ high = omega arith in
    subst (λ (k : ℕ). LeavesBetween run p low k c) z (left_between run p c low (high - low) there (λ e. gone (at_step run p high (low + (high - low)) (sym z) ∙ e)))

-- of two robots that enter a cell, the first leaves it before the second comes
pub leaves_before : (run : Run) (p r t u c : ℕ) → IsConflictFree run.plan → u ≤ run.plan.steps → p < run.plan.robots → r < run.plan.robots → t < u
    → run.plan.cell t p ≡ c → Moves run.plan r u → run.plan.cell u r ≡ c → LeavesBetween run p t u c
leaves_before run p r t u c free small p_in r_in less there moves enters = elim (cases_eq p r) [
  | inl same ↦ (
      let h = left_by run p c t (u - 1) (omega arith) there (λ e. moves.other (enters ∙ sym (ap (run.plan.cell (u - 1)) (sym same) ∙ e))) in
      record { step = h.step; after = h.after; until = omega (arith, h.until); leaves = h.leaves })
  | inr other ↦ left_by run p c t u (omega arith) there (λ e. other (free.distinct u p r small p_in r_in (e ∙ sym enters)))
]
