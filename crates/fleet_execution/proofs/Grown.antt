-- A further step is planned.
use Rattle.std.proofs.Common.{◌≡◌, ◌≢◌, ℕ, ◌+◌, ◌-◌, ◌%◌, ◌<◌, ◌≤◌, inl, inr, Bool, true, false, not, ◌&&◌, eqb, ltb, List, Option, Some, None, get_or, refl, sym, ◌∙◌, ap, subst, arith, rules}
use Rattle.std.proofs.lemmas.Bool.{cases_lt}
use Rattle.std.proofs.Math.Nat.{add-mod_right}
use Rattle.execution_law.specs.Run.{Moves, Leaves, Follows, IsMate}
use Rattle.execution_law.proofs.Cycles.{leads_inside}
use Rattle.execution_law.proofs.Visits.{LeavesBetween}
use Rattle.fleet_execution.specs.declared.robot.Robot.{Robot}
use Rattle.fleet_execution.specs.declared.robot.Leave.{Leave}
use Rattle.fleet_execution.specs.declared.robot.Planned.{Planned}
use Rattle.fleet_execution.specs.declared.robot.Turning.{Turning}
use Rattle.fleet_execution.specs.Course.{Course, longer, with_step}
use Rattle.fleet_execution.specs.Desk.{Desk}
use Rattle.fleet_execution.specs.Executes.{IsLast, IsLastLeave, IsKept, Knows, IsTracked, IsTurningOf, IsCourse, Counts, count_below, is_open, Completes, IsIn, IsStep, Executes}
use Rattle.fleet_execution.proofs.Counting.{count_same, count_zero}
use Rattle.fleet_execution.proofs.Places.{places_apart}
use Rattle.fleet_execution.proofs.Rings.{leaves_before}
use Rattle.fleet_execution.proofs.Reported.{open_is}
use Rattle.fleet_execution.proofs.Begun.{free_of_may, next_of_may}
use Rattle.fleet_execution.proofs.Longer.{cell_old, cell_new, moves_on, moves_back, leaves_on, leaves_back, mate_on, mate_back, turns_on, turns_back, may_back, group_on}
use Rattle.fleet_execution.specs.Stepped.{IsMover, AreNoted}
use Rattle.fleet_execution.proofs.Planned.{IsWindowed, lawful_longer, free_longer, cell_last, mover, moves_new, last_on, left_now}

module _ (d : Desk) (o : Course) (x : Executes d o) (to : List ℕ) (step : IsStep d to) (some_ahead : 0 < d.ahead) where
  now_step : d.steps + 1 ≡ o.run.plan.steps + 1
  now_step = omega (arith, x.steps)

  -- a step that is kept after the new one, and was before
  was_kept : (t : ℕ) → IsKept d.ahead (o.run.plan.steps + 1) t → t ≤ o.run.plan.steps → IsKept d.ahead o.run.plan.steps t
  was_kept t kept old = record { some = kept.some; planned = old; late = omega (arith, kept.late) }

  kept_in : (t : ℕ) → IsKept d.ahead (o.run.plan.steps + 1) t → IsKept d.ahead (d.steps + 1) t
  kept_in t kept = subst (λ (n : ℕ). IsKept d.ahead n t) (sym now_step) kept

  in_count : (r : ℕ) → r < o.run.plan.robots → r < d.count
  in_count r inside = omega (arith, x.robots, inside)

  module _ (l : ℕ → Option Leave) (noted : AreNoted d to l) (w : ℕ → ℕ → Planned) (windowed : IsWindowed d to l w) where
    new_at : (t : ℕ) → IsKept d.ahead (o.run.plan.steps + 1) t → o.run.plan.steps < t → d.steps + 1 ≡ t
    new_at t kept new = omega (arith, x.steps, kept.planned, new)

    after_at : (r t : ℕ) → r < o.run.plan.robots → IsKept d.ahead (o.run.plan.steps + 1) t → o.run.plan.steps < t → (w r t).after ≡ l (get_or to r 0)
    after_at r t inside kept new = subst (λ (k : ℕ). (w r k).after ≡ l (get_or to r 0)) (new_at t kept new) (windowed.after_now r (in_count r inside))

    after_was : (r t : ℕ) → r < o.run.plan.robots → IsKept d.ahead (o.run.plan.steps + 1) t → t ≤ o.run.plan.steps → (w r t).after ≡ (d.window r t).after
    after_was r t inside kept old = windowed.after_old r t (in_count r inside) (kept_in t kept) (omega (arith, x.steps, old))

    to_cells : (r : ℕ) → r < o.run.plan.robots → get_or to r 0 < d.cells
    to_cells r inside = step.inside r (in_count r inside)

    told_was : (r t : ℕ) (v : Leave) → r < o.run.plan.robots → IsKept d.ahead (o.run.plan.steps + 1) t → t ≤ o.run.plan.steps → Moves (longer o.run.plan to) r t → (d.window r t).after ≡ Some v
        → IsKept d.ahead (o.run.plan.steps + 1) v.step → (w v.robot v.step).follower ≡ Some r
    told_was r t v inside kept old moves after_v v_kept =
        let was = moves_back o.run.plan to r t old inside moves in
        let last : IsLast o.run.plan t (o.run.plan.cell t r) v = subst (λ (a : Option Leave). IsLastLeave o.run.plan t (o.run.plan.cell t r) a) after_v (x.knows.after r t inside (was_kept t kept old) was) in
        let v_old : v.step ≤ o.run.plan.steps = omega (arith, last.early, old) in
        let told = x.knows.follower r t v inside (was_kept t kept old) was after_v (was_kept v.step v_kept v_old) in
        elim (windowed.told_old v.robot v.step (in_count v.robot last.inside) (kept_in v.step v_kept) (omega (arith, x.steps, v_old))) [
          | inl same ↦ same ∙ told
          | inr other ↦ absurd (
              let p_in : other.0 < o.run.plan.robots = omega (arith, x.robots, other.1) in
              let p_last : IsLast (longer o.run.plan to) (o.run.plan.steps + 1) (get_or to other.0 0) (record { robot = v.robot; step = v.step }) =
              subst (λ (a : Option Leave). IsLastLeave (longer o.run.plan to) (o.run.plan.steps + 1) (get_or to other.0 0) a) other.3 (left_now d o x to step l noted (get_or to other.0 0) (to_cells other.0 p_in)) in
              let v_cell : (longer o.run.plan to).cell (v.step - 1) v.robot ≡ o.run.plan.cell t r = cell_old o.run.plan to (v.step - 1) v.robot (omega arith) ∙ last.leaves.cell in
              let one_cell : get_or to other.0 0 ≡ o.run.plan.cell t r = sym p_last.leaves.cell ∙ v_cell in
              let there : (longer o.run.plan to).cell t r ≡ get_or to other.0 0 = cell_old o.run.plan to t r old ∙ sym one_cell in
              let p_moves = moves_new d o x to step other.0 (o.run.plan.steps + 1) p_in (omega arith) (omega arith) other.2 in
              let h : LeavesBetween (record o.run { plan = longer o.run.plan to }) r t (o.run.plan.steps + 1) (get_or to other.0 0) =
              leaves_before (record o.run { plan = longer o.run.plan to }) r other.0 t (o.run.plan.steps + 1) (get_or to other.0 0) (free_longer d o x to step) (omega arith) inside p_in (omega arith)
              there p_moves (cell_new o.run.plan to (o.run.plan.steps + 1) other.0 (omega arith)) in
              omega (arith, p_last.last r h.step inside h.until h.leaves, h.after, last.early))
        ]

    pub knows_longer : Knows (longer o.run.plan to) d.ahead d.cells w l
    knows_longer = record {
      to = λ r t inside kept. elim (cases_lt o.run.plan.steps t) [
        | inl new ↦ subst (λ (k : ℕ). (w r k).to ≡ get_or to r 0) (new_at t kept new) (windowed.to_now r (in_count r inside)) ∙ sym (cell_new o.run.plan to t r new)
        | inr old ↦ windowed.to_old r t (in_count r inside) (kept_in t kept) (omega (arith, x.steps, old))
            ∙ (x.knows.to r t inside (was_kept t kept old) ∙ sym (cell_old o.run.plan to t r old))
      ];
      after = λ r t inside kept moves. elim (cases_lt o.run.plan.steps t) [
        | inl new ↦ (
            let z : o.run.plan.steps + 1 ≡ t = omega (arith, kept.planned, new) in
            let last : IsLastLeave (longer o.run.plan to) t (get_or to r 0) (l (get_or to r 0)) =
            subst (λ (k : ℕ). IsLastLeave (longer o.run.plan to) k (get_or to r 0) (l (get_or to r 0))) z (left_now d o x to step l noted (get_or to r 0) (to_cells r inside)) in
            let there : IsLastLeave (longer o.run.plan to) t ((longer o.run.plan to).cell t r) (l (get_or to r 0)) =
            subst (λ (c : ℕ). IsLastLeave (longer o.run.plan to) t c (l (get_or to r 0))) (sym (cell_new o.run.plan to t r new)) last in
            subst (λ (a : Option Leave). IsLastLeave (longer o.run.plan to) t ((longer o.run.plan to).cell t r) a) (sym (after_at r t inside kept new)) there)
        | inr old ↦ (
            let last = x.knows.after r t inside (was_kept t kept old) (moves_back o.run.plan to r t old inside moves) in
            let longer_last = last_on d o x to step t (o.run.plan.cell t r) (d.window r t).after old last in
            let there : IsLastLeave (longer o.run.plan to) t ((longer o.run.plan to).cell t r) (d.window r t).after =
            subst (λ (c : ℕ). IsLastLeave (longer o.run.plan to) t c (d.window r t).after) (sym (cell_old o.run.plan to t r old)) longer_last in
            subst (λ (a : Option Leave). IsLastLeave (longer o.run.plan to) t ((longer o.run.plan to).cell t r) a) (sym (after_was r t inside kept old)) there)
      ];
      follower = λ r t v inside kept moves after_v v_kept. elim (cases_lt o.run.plan.steps t) [
        | inl new ↦ windowed.told r v (in_count r inside) (mover d o x to step r t inside new kept.planned moves) (sym (after_at r t inside kept new) ∙ after_v) (kept_in v.step v_kept)
        | inr old ↦ told_was r t v inside kept old moves (sym (after_was r t inside kept old) ∙ after_v) v_kept
      ];
      left = λ c inside. left_now d o x to step l noted c inside;
      inside = λ r t r_in small. elim (cases_lt o.run.plan.steps t) [
        | inl new ↦ subst (λ (c : ℕ). c < d.cells) (sym (cell_new o.run.plan to t r new)) (to_cells r r_in)
        | inr old ↦ subst (λ (c : ℕ). c < d.cells) (sym (cell_old o.run.plan to t r old)) (x.knows.inside r t r_in old)
      ];
    }

  -- what is open in the step that leaves the window
  old_closed : d.unreached ((d.steps + 1) % d.ahead) ≡ 0 → (r t : ℕ) → r < o.run.plan.robots → Moves o.run.plan r t → t + d.ahead ≡ d.steps + 1 → t ≤ o.run.reached r
  old_closed room r t inside moves last = elim (cases_lt (o.run.reached r) t) [
    | inr done ↦ done
    | inl waits ↦ absurd (
        let kept : IsKept d.ahead o.run.plan.steps t = record { some = moves.later; planned = omega (arith, x.steps, last, some_ahead); late = omega (arith, x.steps, last) } in
        let place : t % d.ahead ≡ (d.steps + 1) % d.ahead = sym (add-mod_right t d.ahead) ∙ ap (λ (k : ℕ). k % d.ahead) last in
        let none : count_below o.run.plan.robots (is_open o.run.plan o.run.reached t) ≡ 0 = sym (x.counts.kept t kept) ∙ (ap d.unreached place ∙ room) in
        two (sym (open_is o.run.plan o.run.reached t r moves.later moves waits) ∙ count_zero o.run.plan.robots (is_open o.run.plan o.run.reached t) none r inside))
  ]
    where
      two : true ≡ false → ⊥
      two e = cc

  same_open : (t r : ℕ) → t ≤ o.run.plan.steps → is_open (longer o.run.plan to) o.run.reached t r ≡ is_open o.run.plan o.run.reached t r
  same_open t r old =
      ap (λ (c : ℕ). not (eqb c ((longer o.run.plan to).cell (t - 1) r)) && ltb (o.run.reached r) t) (cell_old o.run.plan to t r old)
      ∙ ap (λ (c : ℕ). not (eqb (o.run.plan.cell t r) c) && ltb (o.run.reached r) t) (cell_old o.run.plan to (t - 1) r (omega arith))

  new_open : (t r : ℕ) → r < o.run.plan.robots → o.run.plan.steps < t → t ≤ o.run.plan.steps + 1 → not (eqb (get_or to r 0) (d.robot r).last) ≡ is_open (longer o.run.plan to) o.run.reached t r
  new_open t r inside new small =
      let less : o.run.reached r < t = omega (arith, x.course.low r inside, x.course.high r inside, x.course.lawful.within r inside, new) in
      let small_b : ltb (o.run.reached r) t ≡ true = search rules in
      let a = cell_new o.run.plan to t r new in
      let b = cell_last d o x to step r t inside new small in
      sym (
      ap (λ (c : ℕ). not (eqb c ((longer o.run.plan to).cell (t - 1) r)) && ltb (o.run.reached r) t) a
      ∙ (ap (λ (c : ℕ). not (eqb (get_or to r 0) c) && ltb (o.run.reached r) t) b
      ∙ (ap (λ (y : Bool). not (eqb (get_or to r 0) (d.robot r).last) && y) small_b ∙ and_true (not (eqb (get_or to r 0) (d.robot r).last)))))
    where
      and_true : (y : Bool) → (y && true) ≡ y
      and_true true = refl
      and_true false = refl

  module _ (n : ℕ → ℕ) (room : d.unreached ((d.steps + 1) % d.ahead) ≡ 0)
      (here : n ((d.steps + 1) % d.ahead) ≡ count_below o.run.plan.robots (λ r. not (eqb (get_or to r 0) (d.robot r).last)))
      (there : (k : ℕ) → k ≢ (d.steps + 1) % d.ahead → n k ≡ d.unreached k) where
    pub counts_longer : Counts (longer o.run.plan to) o.run.reached d.ahead n
    counts_longer = record {
      kept = λ t kept. elim (cases_lt o.run.plan.steps t) [
        | inl new ↦ (
            let z : d.steps + 1 ≡ t = omega (arith, x.steps, kept.planned, new) in
            subst (λ (k : ℕ). n (k % d.ahead) ≡ count_below o.run.plan.robots (λ r. not (eqb (get_or to r 0) (d.robot r).last))) z here
            ∙ count_same o.run.plan.robots (λ r. not (eqb (get_or to r 0) (d.robot r).last)) (is_open (longer o.run.plan to) o.run.reached t) (λ r inside. new_open t r inside new kept.planned))
        | inr old ↦ there (t % d.ahead) (λ e. places_apart d.ahead t (d.steps + 1) (omega (arith, x.steps, old)) (omega (arith, x.steps, kept.late)) (sym e))
            ∙ (x.counts.kept t (was_kept t kept old)
            ∙ count_same o.run.plan.robots (is_open o.run.plan o.run.reached t) (is_open (longer o.run.plan to) o.run.reached t) (λ r inside. sym (same_open t r old)))
      ];
      blank = λ t later small. there (t % d.ahead) (λ e. places_apart d.ahead (d.steps + 1) t (omega (arith, x.steps, later)) (omega (arith, small)) e) ∙ x.counts.blank t (omega (arith, later)) small;
      old = λ r t inside moves early. (
          let past : t ≤ o.run.plan.steps = omega (arith, early, some_ahead) in
          let was = moves_back o.run.plan to r t past inside moves in
          elim (cases_lt o.run.plan.steps (t + d.ahead)) [
            | inr before ↦ x.counts.old r t inside was before
            | inl last ↦ old_closed room r t inside was (omega (arith, x.steps, early, last))
          ]);
    }

  pub tracked_longer : (r : ℕ) (s : Robot) → r < o.run.plan.robots → s ≡ record (d.robot r) { last = get_or to r 0 } → IsTracked (with_step o to) r s
  tracked_longer r s inside is = subst (λ (y : Robot). IsTracked (with_step o to) r y) (sym is) (
      let k = x.tracked r inside in
      let small : o.returned r ≤ o.run.plan.steps = omega (arith, x.course.high r inside, x.course.lawful.within r inside) in
      record {
        reached = k.reached;
        returned = k.returned;
        cell = k.cell ∙ sym (cell_old o.run.plan to (o.run.reached r) r (omega (arith, small, x.course.low r inside)));
        bound = k.bound ∙ sym (cell_old o.run.plan to (o.returned r) r small);
        last = sym (cell_new o.run.plan to (o.run.plan.steps + 1) r (omega arith));
        turned_before = k.turned_before;
        turned = λ some same. turns_on o.run.plan to (o.returned r) r small inside (k.turned some same);
        straight = λ turns. k.straight (turns_back o.run.plan to (o.returned r) r small inside turns);
      })

  pub course_longer : IsCourse (with_step o to)
  course_longer = record {
    lawful = lawful_longer d o x to step;
    one = λ r t inside moves less. x.course.one r t inside (moves_back o.run.plan to r t (omega (arith, less, x.course.lawful.within r inside)) inside moves) less;
    low = x.course.low;
    high = x.course.high;
  }

  turning_longer_by : (k : Option Turning) → IsTurningOf o k → IsTurningOf (with_step o to) k
  turning_longer_by None all = all
  turning_longer_by (Some k) turning =
      let small = turning.planned in
      let follows_on : (p q : ℕ) → p < o.run.plan.robots → q < o.run.plan.robots → Follows o.run.plan k.step p q → Follows (longer o.run.plan to) k.step p q = λ p q p_in q_in f. record {
        enters = moves_on o.run.plan to p k.step small p_in f.enters;
        leaves = leaves_on o.run.plan to q k.step ((longer o.run.plan to).cell k.step p) small q_in (subst (λ (c : ℕ). Leaves o.run.plan q k.step c) (sym (cell_old o.run.plan to k.step p small)) f.leaves);
      } in
      let follows_back : (p q : ℕ) → p < o.run.plan.robots → q < o.run.plan.robots → Follows (longer o.run.plan to) k.step p q → Follows o.run.plan k.step p q = λ p q p_in q_in f. record {
        enters = moves_back o.run.plan to p k.step small p_in f.enters;
        leaves = leaves_back o.run.plan to q k.step (o.run.plan.cell k.step p) small q_in (subst (λ (c : ℕ). Leaves (longer o.run.plan to) q k.step c) (cell_old o.run.plan to k.step p small) f.leaves);
      } in
      let mate_in : (q : ℕ) → IsMate o.run.plan k.step k.first q → q < o.run.plan.robots = λ q mate. leads_inside o.run.plan k.step mate.count k.first q turning.first_in mate.leads in
      let back : (q : ℕ) → IsMate (longer o.run.plan to) k.step k.first q → IsMate o.run.plan k.step k.first q = λ q mate. mate_back o.run.plan to k.step k.first q small turning.first_in mate in
      record {
        first_in = turning.first_in;
        next_in = turning.next_in;
        planned = omega (arith, small);
        turns = turns_on o.run.plan to k.step k.first small turning.first_in turning.turns;
        begun = λ q mate. turning.begun q (back q mate);
        given = turning.given;
        mate = mate_on o.run.plan to k.step k.first k.next small turning.first_in turning.mate;
        waits = turning.waits;
        led = (turning.led.0, turning.led.1, turning.led.2, follows_on turning.led.0 k.next turning.led.1 turning.next_in turning.led.3);
        others = λ q q_in. elim (turning.others q q_in) [
          | inl same ↦ inl same
          | inr both ↦ inr (mate_on o.run.plan to k.step k.first q small turning.first_in both.0, both.1)
        ];
        follows = λ p q mate given q_in f. turning.follows p q (back p mate) given q_in (follows_back p q (mate_in p (back p mate)) q_in f);
        entered = λ q mate given. elim (turning.entered q (back q mate) given) [
          | inl same ↦ inl same
          | inr from ↦ inr (from.0, from.1, from.2, follows_on from.0 q from.1 (mate_in q (back q mate)) from.3)
        ];
      }

  module _ (y : List ℕ) (more : (q : ℕ) → IsIn d.ready q → IsIn y q) (offered : (r : ℕ) → r < d.count → IsMover d to r → (d.robot r).returned ≡ (d.robot r).reached → IsIn y r) where
    completes_longer : Completes (record o.run { plan = longer o.run.plan to }) y
    completes_longer r t inside none may = elim (cases_lt o.run.plan.steps t) [
      | inr old ↦ x.completes r t inside (λ q with_it is_in. none q (group_on o.run to x.course.lawful.within r t q inside old with_it) (more q is_in)) (may_back o.run to x.course.lawful.within r t inside old may)
      | inl new ↦ (
          let free = free_of_may (record o.run { plan = longer o.run.plan to }) r t may in
          let next = next_of_may (record o.run { plan = longer o.run.plan to }) r t may in
          let k = x.tracked r inside in
          let stands : (d.robot r).returned ≡ (d.robot r).reached = omega (arith, k.returned, k.reached, free.stands, x.course.low r inside, x.course.high r inside) in
          none r (inl refl) (offered r (in_count r inside) (mover d o x to step r t inside new next.planned next.moves) stands))
    ]

  pub grown : (l : ℕ → Option Leave) → AreNoted d to l → (w : ℕ → ℕ → Planned) → IsWindowed d to l w
      → (n : ℕ → ℕ) → d.unreached ((d.steps + 1) % d.ahead) ≡ 0
      → n ((d.steps + 1) % d.ahead) ≡ count_below o.run.plan.robots (λ r. not (eqb (get_or to r 0) (d.robot r).last))
      → ((k : ℕ) → k ≢ (d.steps + 1) % d.ahead → n k ≡ d.unreached k)
      → (f : ℕ → Robot) → ((r : ℕ) → r < d.count → f r ≡ record (d.robot r) { last = get_or to r 0 })
      → (y : List ℕ) → ((q : ℕ) → IsIn d.ready q → IsIn y q) → ((r : ℕ) → r < d.count → IsMover d to r → (d.robot r).returned ≡ (d.robot r).reached → IsIn y r)
      → Executes (record d { steps = d.steps + 1; robot = f; window = w; unreached = n; leave = l; ready = y }) (with_step o to)
  grown l noted w windowed n room here there f own y more offered = record {
    clearance = x.clearance;
    robots = x.robots;
    steps = omega (arith, x.steps);
    course = course_longer;
    knows = knows_longer l noted w windowed;
    tracked = λ r inside. tracked_longer r (f r) inside (own r (in_count r inside));
    turning = turning_longer_by d.turning x.turning;
    counts = counts_longer n room here there;
    completes = completes_longer y more offered;
  }
