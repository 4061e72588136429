-- A move of a cycle that has begun is returned.
use Rattle.std.proofs.Common.{◌≡◌, ◌≢◌, ℕ, zero, suc, ◌-◌, ◌<◌, ◌≤◌, ◌⊎◌, inl, inr, Option, Some, None, refl, sym, ◌∙◌, ap, subst, arith}
use Rattle.std.proofs.lemmas.Bool.{cases_eq, cases_lt}
use Rattle.execution_law.specs.Run.{IsConflictFree, Follows, Leads, IsMate, Turns}
use Rattle.execution_law.proofs.Cycles.{mate_of_mate, mate_turns, leads_inside}
use Rattle.fleet_execution.specs.declared.robot.Robot.{Robot}
use Rattle.fleet_execution.specs.declared.robot.Turning.{Turning}
use Rattle.fleet_execution.specs.Course.{Course, put}
use Rattle.fleet_execution.specs.Desk.{Desk, before_in}
use Rattle.fleet_execution.specs.Executes.{IsKept, IsTurning, IsTurningOf, AreReturned, IsCourse, Executes}
use Rattle.fleet_execution.proofs.Rings.{IsMember, member, follows_next, turns_moves}
use Rattle.fleet_execution.proofs.Asked.{kept_at, free_of_conflicts, late_from}
use Rattle.fleet_execution.proofs.Put.{put_same, put_other}
use Rattle.fleet_execution.proofs.Given.{given_robot, tracked_all}

module _ (d : Desk) (o : Course) (x : Executes d o) (k : Turning) (turning : IsTurning o k) where
  plan_free : IsConflictFree o.run.plan
  plan_free = free_of_conflicts d o x

  next_turns : Turns o.run.plan k.step k.next
  next_turns = mate_turns o.run.plan k.step k.first k.next plan_free turning.planned turning.turns turning.mate

  begun_next : o.run.begun k.next ≡ k.step
  begun_next = turning.begun k.next turning.mate

  -- the step of the cycle is kept
  pub kept_turn : IsKept d.ahead o.run.plan.steps k.step
  kept_turn =
      let moves = turns_moves o.run.plan k.step k.next next_turns in
      let waits : o.run.reached k.next < k.step = omega (arith, turning.waits, x.course.low k.next turning.next_in) in
      kept_at d o x k.step moves.later (omega (arith, x.steps, turning.planned)) (late_from d o x k.next k.step turning.next_in moves waits)

  last : IsMember o.run.plan k.step k.next (before_in d.window k.step k.next)
  last = member o.run.plan d.ahead d.cells d.window d.leave x.knows plan_free k.step kept_turn k.next 1 turning.next_in next_turns

  follows_last : Follows o.run.plan k.step k.next (before_in d.window k.step k.next)
  follows_last = follows_next o.run.plan d.ahead d.cells d.window d.leave x.knows plan_free k.step kept_turn k.next 0 turning.next_in next_turns

  pub last_in : before_in d.window k.step k.next < o.run.plan.robots
  last_in = last.inside

  mate_in : (q : ℕ) → IsMate o.run.plan k.step k.first q → q < o.run.plan.robots
  mate_in q mate = leads_inside o.run.plan k.step mate.count k.first q turning.first_in mate.leads

  one_last : (q : ℕ) → q < o.run.plan.robots → Follows o.run.plan k.step k.next q → q ≡ before_in d.window k.step k.next
  one_last q q_in follows = plan_free.distinct (k.step - 1) q _ (omega (arith, turning.planned)) q_in last.inside (follows.leaves.cell ∙ sym follows_last.leaves.cell)

  given_then : ℕ → ℕ
  given_then = put o.returned k.next k.step

  was_given : (q : ℕ) → o.returned q ≡ k.step → put o.returned k.next k.step q ≡ k.step
  was_given q given = elim (cases_eq q k.next) [
    | inl same ↦ put_same o.returned k.next k.step q same
    | inr other ↦ put_other o.returned k.next k.step q other ∙ given
  ]

  -- who was returned leads to others who were, or to the last
  given_on : (p q : ℕ) → IsMate o.run.plan k.step k.first p → put o.returned k.next k.step p ≡ k.step → q < o.run.plan.robots → Follows o.run.plan k.step p q
      → (put o.returned k.next k.step q ≡ k.step) ⊎ (q ≡ before_in d.window k.step k.next)
  given_on p q mate given q_in follows = elim (cases_eq p k.next) [
    | inl same ↦ inr (one_last q q_in (subst (λ (y : ℕ). Follows o.run.plan k.step y q) same follows))
    | inr other ↦ elim (turning.follows p q mate (sym (put_other o.returned k.next k.step p other) ∙ given) q_in follows) [
      | inl old ↦ inl (was_given q old)
      | inr now ↦ inl (put_same o.returned k.next k.step q now)
    ]
  ]

  course_given : IsCourse (record { run = o.run; returned = put o.returned k.next k.step })
  course_given = record {
    lawful = x.course.lawful;
    one = x.course.one;
    low = λ q q_in. elim (cases_eq q k.next) [
      | inl same ↦ (
          let v = put_same o.returned k.next k.step q same in
          let h : o.run.reached q ≤ o.run.begun q = x.course.lawful.behind q q_in in
          omega (arith, v, h, ap o.run.begun same, begun_next))
      | inr other ↦ omega (arith, put_other o.returned k.next k.step q other, x.course.low q q_in)
    ];
    high = λ q q_in. elim (cases_eq q k.next) [
      | inl same ↦ omega (arith, put_same o.returned k.next k.step q same, ap o.run.begun same, begun_next)
      | inr other ↦ omega (arith, put_other o.returned k.next k.step q other, x.course.high q q_in)
    ];
  }

  -- the cycle is through
  all_given : before_in d.window k.step k.next ≡ k.first → AreReturned (record { run = o.run; returned = put o.returned k.next k.step })
  all_given through q q_in = elim (cases_eq q k.next) [
    | inl same ↦ put_same o.returned k.next k.step q same ∙ sym (ap o.run.begun same ∙ begun_next)
    | inr other ↦ elim (turning.others q q_in) [
      | inl old ↦ put_other o.returned k.next k.step q other ∙ old
      | inr both ↦ each both.0.count k.first (record { count = zero; leads = refl }) (was_given k.first turning.given) both.0.leads ∙ sym (turning.begun q both.0)
    ]
  ]
    where
      each : (n p : ℕ) → IsMate o.run.plan k.step k.first p → put o.returned k.next k.step p ≡ k.step → Leads o.run.plan k.step n p q → put o.returned k.next k.step q ≡ k.step
      each zero p mate given leads = subst (λ (y : ℕ). put o.returned k.next k.step y ≡ k.step) leads given
      each (suc n) p mate given leads =
          let onward : IsMate o.run.plan k.step k.first leads.0 = mate_of_mate o.run.plan k.step k.first p leads.0 mate (record { count = suc zero; leads = (leads.0, leads.1, leads.2, refl) }) in
          each n leads.0 onward
          (elim (given_on p leads.0 mate given leads.1 leads.2) [
            | inl done ↦ done
            | inr at ↦ was_given leads.0 (ap o.returned (at ∙ through) ∙ turning.given)
          ])
          leads.3

  goes_on : before_in d.window k.step k.next ≢ k.first → IsTurning (record { run = o.run; returned = put o.returned k.next k.step }) (record { step = k.step; first = k.first; next = before_in d.window k.step k.next })
  goes_on more =
      let other : before_in d.window k.step k.next ≢ k.next = λ same. follows_last.enters.other (sym follows_last.leaves.cell ∙ ap (o.run.plan.cell (k.step - 1)) same) in
      let mate : IsMate o.run.plan k.step k.first (before_in d.window k.step k.next) = mate_of_mate o.run.plan k.step k.first k.next (before_in d.window k.step k.next) turning.mate last.mate in
      record {
        first_in = turning.first_in;
        next_in = last.inside;
        planned = turning.planned;
        turns = turning.turns;
        begun = turning.begun;
        given = was_given k.first turning.given;
        mate = mate;
        waits = elim (cases_lt (o.returned (before_in d.window k.step k.next)) k.step) [
          | inl less ↦ omega (arith, put_other o.returned k.next k.step (before_in d.window k.step k.next) other, less)
          | inr at ↦ absurd (
              let now : o.returned (before_in d.window k.step k.next) ≡ k.step = omega (arith, at, x.course.high _ last.inside, turning.begun _ mate) in
              elim (turning.entered (before_in d.window k.step k.next) mate now) [
                | inl is_first ↦ more is_first
                | inr from ↦ (
                    let one : from.0 ≡ k.next = plan_free.distinct k.step from.0 k.next turning.planned from.1 turning.next_in (sym from.3.leaves.cell ∙ follows_last.leaves.cell) in
                    omega (arith, turning.waits, from.2, ap o.returned one))
              ])
        ];
        led = (k.next, turning.next_in, put_same o.returned k.next k.step k.next refl, follows_last);
        others = λ q q_in. elim (cases_eq q k.next) [
          | inl same ↦ inl (put_same o.returned k.next k.step q same ∙ sym (ap o.run.begun same ∙ begun_next))
          | inr else_one ↦ elim (turning.others q q_in) [
            | inl old ↦ inl (put_other o.returned k.next k.step q else_one ∙ old)
            | inr both ↦ inr (both.0, put_other o.returned k.next k.step q else_one ∙ both.1)
          ]
        ];
        follows = λ p q p_mate given q_in p_follows. given_on p q p_mate given q_in p_follows;
        entered = λ q q_mate given. elim (cases_eq q k.next) [
          | inl same ↦ inr (
            turning.led.0,
            turning.led.1,
            was_given turning.led.0 turning.led.2,
            subst (λ (y : ℕ). Follows o.run.plan k.step turning.led.0 y) (sym same) turning.led.3,
          )
          | inr else_one ↦ elim (turning.entered q q_mate (sym (put_other o.returned k.next k.step q else_one) ∙ given)) [
            | inl is_first ↦ inl is_first
            | inr from ↦ inr (from.0, from.1, was_given from.0 from.2, from.3)
          ]
        ];
      }

  pub passed : (f : ℕ → Robot) (j : Option Turning) → f k.next ≡ given_robot d k.next k.step k.step → ((q : ℕ) → q ≢ k.next → f q ≡ d.robot q)
      → (before_in d.window k.step k.next ≡ k.first → j ≡ None)
      → (before_in d.window k.step k.next ≢ k.first → j ≡ Some (record { step = k.step; first = k.first; next = before_in d.window k.step k.next }))
      → Executes (record d { robot = f; turning = j }) (record { run = o.run; returned = put o.returned k.next k.step })
  passed f j f_own f_rest through more = record {
    clearance = x.clearance;
    robots = x.robots;
    steps = x.steps;
    course = course_given;
    knows = x.knows;
    tracked = tracked_all d o x k.next k.step turning.next_in kept_turn o.run.begun (put o.returned k.next k.step) k.step f (put_same o.returned k.next k.step k.next refl)
        (λ q other. put_other o.returned k.next k.step q other) f_own f_rest (omega arith) (λ now. next_turns) (λ turns. refl);
    turning = elim (cases_eq (before_in d.window k.step k.next) k.first) [
      | inl same ↦ subst (λ (y : Option Turning). IsTurningOf (record { run = o.run; returned = put o.returned k.next k.step }) y) (sym (through same)) (all_given same)
      | inr other ↦ subst (λ (y : Option Turning). IsTurningOf (record { run = o.run; returned = put o.returned k.next k.step }) y) (sym (more other)) (goes_on other)
    ];
    counts = x.counts;
    completes = x.completes;
  }
