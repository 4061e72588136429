-- A further step, as the state keeps it.
use Rattle.std.proofs.Common.{◌≡◌, ◌≢◌, ℕ, ◌+◌, ◌%◌, ◌<◌, ◌≤◌, inl, inr, not, eqb, List, Option, None, length, get_or, set, sym, ◌∙◌, ap, subst, arith, get_or-set_same, get_or-set_other}
use Rattle.fleet_execution.specs.declared.robot.Leave.{Leave}
use Rattle.fleet_execution.specs.declared.robot.Planned.{Planned}
use Rattle.fleet_execution.specs.declared.robot.Robot.{Robot}
use Rattle.fleet_execution.specs.declared.state.State.{State}
use Rattle.fleet_execution.specs.Course.{Course, longer, with_step}
use Rattle.fleet_execution.specs.Queue.{Line}
use Rattle.fleet_execution.specs.Desk.{Desk}
use Rattle.fleet_execution.specs.Executes.{IsLast, IsLastLeave, IsKept, IsIn, IsStep, count_below, Executes}
use Rattle.fleet_execution.specs.Stepped.{IsMover, AreNoted, AreLast, IsTold, HasRoom}
use Rattle.fleet_execution.specs.State.{desk_of, slot_of, nobody, blank, IsSized}
use Rattle.fleet_execution.proofs.Places.{places_apart}
use Rattle.fleet_execution.proofs.Planned.{IsWindowed, left_now}
use Rattle.fleet_execution.proofs.Grown.{grown}

pub last_inside : {A : Type 0} (s : State A) (o : Course) → Executes (desk_of s) o → (r : ℕ) → r < s.count → ((desk_of s).robot r).last < length s.leaves
last_inside s o x r inside =
    let r_in : r < o.run.plan.robots = omega (arith, inside, x.robots) in
    omega (arith, (x.tracked r r_in).last, x.knows.inside r o.run.plan.steps r_in (omega arith))

pub sized_leaves : {A : Type 0} (s : State A) (l : List (Option Leave)) (w : List Planned) → IsSized s → length l ≡ length s.leaves → length w ≡ length s.window → IsSized (record s { leaves = l; window = w })
sized_leaves s l w z cells same = record { some = z.some; robots = z.robots; window = same ∙ z.window; unreached = z.unreached; ready = z.ready; marks = z.marks ∙ sym cells; small = omega (arith, cells, z.small) }

abbrev at_slot : {A : Type 0} → State A → List Planned → ℕ → ℕ → Planned
at_slot s w r t = get_or w (slot_of s.ahead s.count r t) blank

module _ {A : Type 0} (s : State A) (o : Course) (x : Executes (desk_of s) o) (sized : IsSized s) (to : List ℕ) (step : IsStep (desk_of s) to) (room : HasRoom (desk_of s)) (l : List (Option Leave)) (cells : length l ≡ length s.leaves)
    (noted : AreNoted (desk_of s) to (λ c. get_or l c None)) where
  in_plan : (r : ℕ) → r < s.count → r < o.run.plan.robots
  in_plan r inside = omega (arith, inside, x.robots)

  pub are_last : (w : List Planned) → AreLast (desk_of (record s { leaves = l; window = w })) to
  are_last w = record {
    known = λ c v inside is. (
        let last : IsLast (longer o.run.plan to) (o.run.plan.steps + 1) c v = subst (λ (a : Option Leave). IsLastLeave (longer o.run.plan to) (o.run.plan.steps + 1) c a) is
        (left_now (desk_of s) o x to step (λ y. get_or l y None) noted c (omega (arith, inside, cells))) in
        (omega (arith, last.inside, x.robots), omega (arith, last.early, x.steps), last.leaves.moves.later));
    apart = λ p q v p_in q_in p_moves q_moves p_is q_is. (
        let p_last : IsLast (longer o.run.plan to) (o.run.plan.steps + 1) (get_or to p 0) v = subst (λ (a : Option Leave). IsLastLeave (longer o.run.plan to) (o.run.plan.steps + 1) (get_or to p 0) a) p_is
        (left_now (desk_of s) o x to step (λ y. get_or l y None) noted (get_or to p 0) (step.inside p p_in)) in
        let q_last : IsLast (longer o.run.plan to) (o.run.plan.steps + 1) (get_or to q 0) v = subst (λ (a : Option Leave). IsLastLeave (longer o.run.plan to) (o.run.plan.steps + 1) (get_or to q 0) a) q_is
        (left_now (desk_of s) o x to step (λ y. get_or l y None) noted (get_or to q 0) (step.inside q q_in)) in
        step.distinct p q p_in q_in (sym p_last.leaves.cell ∙ q_last.leaves.cell));
  }

  module _ (w2 w3 : List Planned)
      (now : (r : ℕ) → r < s.count → at_slot s w2 r (s.steps + 1) ≡ record { to = get_or to r 0; after = get_or l (get_or to r 0) None; follower = None })
      (others : (r t : ℕ) → r < s.count → t % s.ahead ≢ (s.steps + 1) % s.ahead → at_slot s w2 r t ≡ at_slot s s.window r t)
      (same_to : (r t : ℕ) → (at_slot s w3 r t).to ≡ (at_slot s w2 r t).to)
      (same_after : (r t : ℕ) → (at_slot s w3 r t).after ≡ (at_slot s w2 r t).after)
      (told : IsTold (desk_of (record s { leaves = l; window = w2 })) to s.count (at_slot s w3)) where
    old_place : (t : ℕ) → IsKept s.ahead (s.steps + 1) t → t ≤ s.steps → t % s.ahead ≢ (s.steps + 1) % s.ahead
    old_place t kept old e = places_apart s.ahead t (s.steps + 1) (omega (arith, old)) (omega (arith, kept.late)) (sym e)

    windowed : IsWindowed (desk_of s) to (λ c. get_or l c None) (at_slot s w3)
    windowed = record {
      to_now = λ r inside. same_to r (s.steps + 1) ∙ ap (λ (y : Planned). y.to) (now r inside);
      after_now = λ r inside. same_after r (s.steps + 1) ∙ ap (λ (y : Planned). y.after) (now r inside);
      to_old = λ r t inside kept old. same_to r t ∙ ap (λ (y : Planned). y.to) (others r t inside (old_place t kept old));
      after_old = λ r t inside kept old. same_after r t ∙ ap (λ (y : Planned). y.after) (others r t inside (old_place t kept old));
      told = told.told;
      told_old = λ q e inside kept old. elim (told.old q e inside kept) [
        | inl was ↦ inl (was ∙ ap (λ (y : Planned). y.follower) (others q e inside (old_place e kept old)))
        | inr other ↦ inr other
      ];
    }

    pub planned_state : (moves : ℕ) (q : Line) (robots : List Robot)
        → moves ≡ count_below s.count (λ r. not (eqb (get_or to r 0) ((desk_of s).robot r).last))
        → ((r : ℕ) → r < s.count → get_or robots r nobody ≡ record ((desk_of s).robot r) { last = get_or to r 0 })
        → ((y : ℕ) → IsIn s.ready.items y → IsIn q.items y)
        → ((r : ℕ) → r < s.count → IsMover (desk_of s) to r → ((desk_of s).robot r).returned ≡ ((desk_of s).robot r).reached → IsIn q.items r)
        → Executes (desk_of (record s { leaves = l; window = w3; unreached = set s.unreached ((s.steps + 1) % s.ahead) moves; ready = q; robots = robots; steps = s.steps + 1 })) (with_step o to)
    planned_state moves q robots moves_is last more offered =
        let place : (s.steps + 1) % s.ahead < length s.unreached = omega (arith, sized.some, sized.unreached) in
        let here : get_or (set s.unreached ((s.steps + 1) % s.ahead) moves) ((s.steps + 1) % s.ahead) 0 ≡ count_below o.run.plan.robots (λ r. not (eqb (get_or to r 0) ((desk_of s).robot r).last)) =
        get_or-set_same s.unreached ((s.steps + 1) % s.ahead) moves 0 place
        ∙ (moves_is ∙ ap (λ (n : ℕ). count_below n (λ r. not (eqb (get_or to r 0) ((desk_of s).robot r).last))) (sym x.robots)) in
        let done = grown (desk_of s) o x to step sized.some (λ c. get_or l c None) noted (at_slot s w3) windowed
        (λ k. get_or (set s.unreached ((s.steps + 1) % s.ahead) moves) k 0) room.1 here (λ k other. get_or-set_other s.unreached ((s.steps + 1) % s.ahead) k moves 0 other)
        (λ r. get_or robots r nobody) last q.items more offered in
        let desk : ℕ → Desk = λ n. record (desk_of (record s { leaves = l; window = w3; unreached = set s.unreached ((s.steps + 1) % s.ahead) moves; ready = q; robots = robots; steps = s.steps + 1 })) { cells = n } in
        subst (λ (n : ℕ). Executes (record (desk_of (record s { leaves = l; window = w3; unreached = set s.unreached ((s.steps + 1) % s.ahead) moves; ready = q; robots = robots; steps = s.steps + 1 })) { cells = n }) (with_step o to))
        (sym cells) done
