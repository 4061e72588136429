-- Which moves may begin, as it is kept.
use Rattle.std.proofs.Common.{◌≡◌, ℕ, zero, suc, ◌-◌, ◌<◌, ◌≤◌, inl, inr, Option, Some, None, refl, sym, ◌∙◌, ap, subst, arith}
use Rattle.std.proofs.lemmas.Bool.{cases_lt}
use Rattle.execution_law.specs.declared.clearance.Clearance.{Clearance}
use Rattle.execution_law.specs.declared.clearance.Clearance.TheVariants.{Arrived, Started}
use Rattle.execution_law.specs.Run.{Run, Leaves, Leads, IsMate, Turns}
use Rattle.execution_law.specs.Rule.{HasEnded, IsNext, MayTurn, MayBegin, IsLawful}
use Rattle.execution_law.specs.Change.{BeginsWith}
use Rattle.execution_law.proofs.Cycles.{append, mate_of_mate, mate_turns, leads_inside}
use Rattle.execution_law.proofs.Kept.{alone_never_turns}
use Rattle.execution_law.proofs.Visits.{ended_before}
use Rattle.fleet_execution.specs.declared.robot.Leave.{Leave}
use Rattle.fleet_execution.specs.Course.{Course}
use Rattle.fleet_execution.specs.Desk.{Desk, leaver, before_in, chain}
use Rattle.fleet_execution.specs.Executes.{IsLast, IsLastLeave, IsKept, AreReturned, Executes}
use Rattle.fleet_execution.specs.Asked.{progress_by, HasEndedIn, IsRing, IsLinked, IsReadyIn, MayTurnIn}
use Rattle.fleet_execution.proofs.Chains.{round}
use Rattle.fleet_execution.proofs.Rings.{member, linked, apart, on, behind_it, leaves_before}
use Rattle.fleet_execution.proofs.Asked.{kept_at, free_of_conflicts, late_from, next_from, next_to, free_from, free_to}

-- the last stay on a cell that a robot enters later did not end in a cycle, unless that robot turns in it
pub no_turn : (run : Run) (r t : ℕ) (l : Leave) → IsLawful run → r < run.plan.robots → IsNext run r t → IsLast run.plan t (run.plan.cell t r) l
    → Turns run.plan l.step l.robot → l.step ≤ run.begun l.robot → ⊥
no_turn run r t l lawful inside next last turns begun =
    let behind = behind_it run.plan l.step l.robot last.inside turns in
    let on : run.plan.cell l.step behind.robot ≡ run.plan.cell t r = sym behind.follows.leaves.cell ∙ last.leaves.cell in
    elim (cases_lt l.step t) [
      | inl less ↦ (
          let h = leaves_before run behind.robot r l.step t (run.plan.cell t r) lawful.free_of_conflicts next.planned behind.inside inside less on next.moves refl in
          omega (arith, last.last behind.robot h.step behind.inside h.until h.leaves, h.after))
      | inr at ↦ (
          let now : l.step ≡ t = omega (arith, at, last.early) in
          let there : run.plan.cell t behind.robot ≡ run.plan.cell t r = subst (λ (k : ℕ). run.plan.cell k behind.robot ≡ run.plan.cell t r) now on in
          let one : behind.robot ≡ r = lawful.free_of_conflicts.distinct t behind.robot r next.planned behind.inside inside there in
          let together = lawful.together l.robot behind.robot l.step last.inside turns behind.mate begun in
          let mine : l.step ≤ run.begun r = subst (λ (k : ℕ). l.step ≤ run.begun k) one together in
          omega (arith, mine, now, next.begins))
    ]

module _ (d : Desk) (o : Course) (x : Executes d o) where
  module _ (r t : ℕ) (inside : r < o.run.plan.robots) (next : IsNext o.run r t) where
    pub is_kept : IsKept d.ahead o.run.plan.steps t
    is_kept = kept_at d o x t next.moves.later (omega (arith, x.steps, next.planned))
        (late_from d o x r t inside next.moves (omega (arith, next.begins, x.course.low r inside, x.course.high r inside)))

    pub after_is : IsLastLeave o.run.plan t (o.run.plan.cell t r) (d.window r t).after
    after_is = x.knows.after r t inside is_kept next.moves

    ended_by : (l : Leave) → l.robot < o.run.plan.robots → (c : Clearance) → d.clearance ≡ c → l.step ≤ progress_by c (d.robot l.robot) → HasEnded o.run l.robot l.step
    ended_by l l_in Arrived is done = inl (omega (arith, done, (x.tracked l.robot l_in).reached))
    ended_by l l_in Started is done = inr (omega (arith, done, (x.tracked l.robot l_in).returned, x.course.high l.robot l_in), inl (x.clearance ∙ is))

    clear_by : (a : Option Leave) → IsLastLeave o.run.plan t (o.run.plan.cell t r) a → HasEndedIn d a
        → (q e : ℕ) → q < o.run.plan.robots → e ≤ t → Leaves o.run.plan q e (o.run.plan.cell t r) → HasEnded o.run q e
    clear_by None none done q e q_in early leaves = absurd (none q e q_in early leaves)
    clear_by (Some l) last done q e q_in early leaves =
        ended_before o.run l.robot l.step (o.run.plan.cell t r) x.course.lawful last.inside last.leaves (ended_by l last.inside d.clearance refl done) q e q_in (last.last q e q_in early leaves) leaves

    pub clear_from : HasEndedIn d (d.window r t).after → (q e : ℕ) → q < o.run.plan.robots → e ≤ t → Leaves o.run.plan q e (o.run.plan.cell t r) → HasEnded o.run q e
    clear_from done = clear_by (d.window r t).after after_is done

    progressed : (l : Leave) → l.robot < o.run.plan.robots → o.returned l.robot ≡ o.run.begun l.robot → (Turns o.run.plan l.step l.robot → l.step ≤ o.run.begun l.robot → ⊥)
        → HasEnded o.run l.robot l.step → (c : Clearance) → d.clearance ≡ c → l.step ≤ progress_by c (d.robot l.robot)
    progressed l l_in all straight ended Arrived is = elim ended [
      | inl there ↦ omega (arith, there, (x.tracked l.robot l_in).reached)
      | inr both ↦ elim both.1 [
        | inl started ↦ absurd (two (sym is ∙ (sym x.clearance ∙ started)))
        | inr turns ↦ absurd (straight turns both.0)
      ]
    ]
      where
        two : Arrived ≡ Started → ⊥
        two e = cc
    progressed l l_in all straight ended Started is = elim ended [
      | inl there ↦ omega (arith, there, (x.tracked l.robot l_in).returned, x.course.low l.robot l_in)
      | inr both ↦ omega (arith, both.0, (x.tracked l.robot l_in).returned, all)
    ]

    done_by : AreReturned o → (a : Option Leave) → IsLastLeave o.run.plan t (o.run.plan.cell t r) a
        → ((q e : ℕ) → q < o.run.plan.robots → e ≤ t → Leaves o.run.plan q e (o.run.plan.cell t r) → HasEnded o.run q e) → HasEndedIn d a
    done_by all None none clear = tt
    done_by all (Some l) last clear = progressed l last.inside (all l.robot last.inside)
        (λ turns begun. no_turn o.run r t l x.course.lawful inside next last turns begun)
        (clear l.robot l.step last.inside last.early last.leaves) d.clearance refl

    pub clear_to : AreReturned o → ((q e : ℕ) → q < o.run.plan.robots → e ≤ t → Leaves o.run.plan q e (o.run.plan.cell t r) → HasEnded o.run q e) → HasEndedIn d (d.window r t).after
    clear_to all clear = done_by all (d.window r t).after after_is clear

  -- the robots that turn with a robot, as they are kept
  module _ (r t : ℕ) (inside : r < o.run.plan.robots) (kept : IsKept d.ahead o.run.plan.steps t) (turns : Turns o.run.plan t r) where
    pub ring : IsRing d t r
    ring = record {
      inside = λ k. omega (arith, x.robots, (member o.run.plan d.ahead d.cells d.window d.leave x.knows (free_of_conflicts d o x) t kept r k inside turns).inside);
      apart = λ i j e. apart o.run.plan d.ahead d.cells d.window d.leave x.knows (free_of_conflicts d o x) t kept r i j inside turns e;
    }

  module _ (r t : ℕ) (inside : r < o.run.plan.robots) (all : AreReturned o) where
    pub turn_to : MayTurn o.run r t → (k : ℕ) → IsLinked d t (chain (before_in d.window t) r k) × IsReadyIn d t (chain (before_in d.window t) r k)
    turn_to may k =
        let next = may.next r (record { count = zero; leads = refl }) in
        let kept = is_kept r t inside next in
        let m = member o.run.plan d.ahead d.cells d.window d.leave x.knows (free_of_conflicts d o x) t kept r k inside may.turns in
        let l = linked o.run.plan d.ahead d.cells d.window d.leave x.knows (free_of_conflicts d o x) t kept r k inside may.turns in
        let q = chain (before_in d.window t) r k in (
          (l.leave, l.after, l.step),
          record { next = next_to d o x q m.inside (all q m.inside) t (may.next q m.mate); free = free_to d o x q m.inside (all q m.inside) (may.free q m.mate) },
        )

    pub turn_ring : MayTurn o.run r t → IsRing d t r
    turn_ring may =
        let next = may.next r (record { count = zero; leads = refl }) in
        ring r t inside (is_kept r t inside next) may.turns

    record Leading (k q : ℕ) : Type 0 where
      known : q < o.run.plan.robots
      leads : Leads o.run.plan t k r q

    leading : (size k : ℕ) → MayTurnIn d t r size → k ≤ size → Leading k (chain (before_in d.window t) r k)
    leading size zero may small = record { known = inside; leads = refl }
    leading size (suc k) may small =
        let before = leading size k may (omega arith) in
        let q = chain (before_in d.window t) r k in
        let ready = may.ready k (omega arith) in
        let next = next_from d o x q before.known (all q before.known) t ready.next in
        let link = may.linked k (omega arith) in
        let last : IsLast o.run.plan t (o.run.plan.cell t q) link.0 = subst (λ (a : Option Leave). IsLastLeave o.run.plan t (o.run.plan.cell t q) a) link.1 (after_is q t before.known next) in
        let leaves : Leaves o.run.plan link.0.robot t (o.run.plan.cell t q) = subst (λ (k : ℕ). Leaves o.run.plan link.0.robot k (o.run.plan.cell t q)) link.2 last.leaves in
        let one : before_in d.window t q ≡ link.0.robot = ap (λ (a : Option Leave). leaver a q) link.1 in
        let grown : Leading (suc k) link.0.robot = record {
          known = last.inside;
          leads = append o.run.plan t k r q link.0.robot before.leads last.inside (record { enters = next.moves; leaves = leaves });
        } in
        subst (λ (y : ℕ). Leading (suc k) y) (sym one) grown

    turn_turns : (size : ℕ) → MayTurnIn d t r size → Turns o.run.plan t r
    turn_turns size may =
        let l = leading size size may (omega arith) in
        let z : size ≡ suc (size - 1) = omega (arith, may.some) in
        record { count = size - 1; leads = subst (λ (n : ℕ). Leads o.run.plan t n r r) z (subst (λ (y : ℕ). Leads o.run.plan t size r y) may.back l.leads) }

    pub turn_from : (size : ℕ) → MayTurnIn d t r size → MayTurn o.run r t
    turn_from size may =
        let turns = turn_turns size may in
        let first = may.ready 0 may.some in
        let kept = is_kept r t inside (next_from d o x r inside (all r inside) t first.next) in
        record {
          turns = turns;
          free = λ q mate. (
              let a = ready_at size may turns kept q mate in
              free_from d o x q (mate_in q mate) (all q (mate_in q mate)) a.free);
          next = λ q mate. (
              let a = ready_at size may turns kept q mate in
              next_from d o x q (mate_in q mate) (all q (mate_in q mate)) t a.next);
        }
      where
        mate_in : (q : ℕ) → IsMate o.run.plan t r q → q < o.run.plan.robots
        mate_in q mate = leads_inside o.run.plan t mate.count r q inside mate.leads

        ready_at : (size : ℕ) → MayTurnIn d t r size → Turns o.run.plan t r → IsKept d.ahead o.run.plan.steps t → (q : ℕ) → IsMate o.run.plan t r q → IsReadyIn d t q
        ready_at size may turns kept q mate =
            let place = on o.run.plan d.ahead d.cells d.window d.leave x.knows (free_of_conflicts d o x) t kept r q inside turns mate in
            let at = round (before_in d.window t) r size may.some may.back place.place in
            subst (λ (y : ℕ). IsReadyIn d t y) (sym at.same ∙ place.is) (may.ready at.place at.below)

-- those that begin together may each begin
pub group_may : (run : Run) (r t q : ℕ) → IsLawful run → r < run.plan.robots → MayBegin run r t → BeginsWith run.plan t r q → MayBegin run q t
group_may run r t q lawful inside may with_it = elim with_it [
  | inl same ↦ subst (λ (y : ℕ). MayBegin run y t) (sym same) may
  | inr turning ↦ elim may [
    | inl alone ↦ absurd (alone_never_turns run r t lawful inside alone turning.0)
    | inr turn ↦ (
        let small = (turn.next r (record { count = zero; leads = refl })).planned in
        inr (record {
          turns = mate_turns run.plan t r q lawful.free_of_conflicts small turn.turns turning.1;
          free = λ p mate. turn.free p (mate_of_mate run.plan t r q p turning.1 mate);
          next = λ p mate. turn.next p (mate_of_mate run.plan t r q p turning.1 mate);
        }))
  ]
]
