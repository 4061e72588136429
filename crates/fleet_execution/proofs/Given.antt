-- A move that begins, and is returned.
use Rattle.std.proofs.Common.{◌≡◌, ◌≢◌, ℕ, zero, ◌-◌, ◌<◌, ◌≤◌, ◌⊎◌, inl, inr, List, Option, Some, None, refl, sym, ◌∙◌, ap, subst, arith}
use Rattle.std.proofs.lemmas.Bool.{cases_eq, cases_lt}
use Rattle.execution_law.specs.declared.clearance.Clearance.TheVariants.{Started}
use Rattle.execution_law.specs.Run.{Moves, Turns}
use Rattle.execution_law.specs.Rule.{IsFree, IsNext, MayBeginAlone, MayTurn}
use Rattle.execution_law.specs.Change.{BeginsWith, Begins}
use Rattle.execution_law.proofs.Cycles.{leads_inside}
use Rattle.execution_law.proofs.Kept.{alone_never_turns, begun_lawful, next_of}
use Rattle.fleet_execution.specs.declared.robot.Robot.{Robot}
use Rattle.fleet_execution.specs.declared.robot.Turning.{Turning}
use Rattle.fleet_execution.specs.Course.{Course, put}
use Rattle.fleet_execution.specs.Desk.{Desk, before_in}
use Rattle.fleet_execution.specs.Executes.{IsKept, IsTracked, IsTurning, IsTurningOf, AreReturned, IsCourse, IsIn, Executes}
use Rattle.fleet_execution.proofs.Rings.{member, follows_next}
use Rattle.fleet_execution.proofs.Asked.{free_of_conflicts}
use Rattle.fleet_execution.proofs.Ready.{is_kept}
use Rattle.fleet_execution.proofs.Put.{put_same, put_other}
use Rattle.fleet_execution.proofs.Begun.{completes_begun}

-- a robot of which nothing changed
pub tracked_as : (o : Course) (b c e : ℕ → ℕ) (r : ℕ) (s : Robot) → c r ≡ o.run.reached r → e r ≡ o.returned r → IsTracked o r s
    → IsTracked (record { run = record o.run { begun = b; reached = c }; returned = e }) r s
tracked_as o b c e r s reached returned k = record {
  reached = k.reached ∙ sym reached;
  returned = k.returned ∙ sym returned;
  cell = k.cell ∙ ap (λ (t : ℕ). o.run.plan.cell t r) (sym reached);
  bound = k.bound ∙ ap (λ (t : ℕ). o.run.plan.cell t r) (sym returned);
  last = k.last;
  turned_before = omega (arith, k.turned_before, returned);
  turned = λ some now. subst (λ (t : ℕ). Turns o.run.plan t r) (sym returned) (k.turned (omega (arith, some, returned)) (now ∙ returned));
  straight = λ turns. k.straight (subst (λ (t : ℕ). Turns o.run.plan t r) returned turns) ∙ sym returned;
}

-- what is kept of a robot whose move in step t is returned
abbrev pub given_robot : Desk → ℕ → ℕ → ℕ → Robot
given_robot d r t v = record (d.robot r) { bound = (d.window r t).to; returned = t; turned = v }

module _ (d : Desk) (o : Course) (x : Executes d o) (r t : ℕ) (inside : r < o.run.plan.robots) (kept : IsKept d.ahead o.run.plan.steps t) where
  pub tracked_given : (b e : ℕ → ℕ) (v : ℕ) → e r ≡ t → v ≤ t → (v ≡ t → Turns o.run.plan t r) → (Turns o.run.plan t r → v ≡ t)
      → IsTracked (record { run = record o.run { begun = b }; returned = e }) r (given_robot d r t v)
  tracked_given b e v is small turns straight =
      let k = x.tracked r inside in
      record {
        reached = k.reached;
        returned = sym is;
        cell = k.cell;
        bound = x.knows.to r t inside kept ∙ ap (λ (y : ℕ). o.run.plan.cell y r) (sym is);
        last = k.last;
        turned_before = omega (arith, is, small);
        turned = λ some now. subst (λ (y : ℕ). Turns o.run.plan y r) (sym is) (turns (now ∙ is));
        straight = λ turning. straight (subst (λ (y : ℕ). Turns o.run.plan y r) is turning) ∙ sym is;
      }

  pub tracked_all : (b e : ℕ → ℕ) (v : ℕ) (f : ℕ → Robot) → e r ≡ t → ((q : ℕ) → q ≢ r → e q ≡ o.returned q) → f r ≡ given_robot d r t v → ((q : ℕ) → q ≢ r → f q ≡ d.robot q)
      → v ≤ t → (v ≡ t → Turns o.run.plan t r) → (Turns o.run.plan t r → v ≡ t)
      → (q : ℕ) → q < o.run.plan.robots → IsTracked (record { run = record o.run { begun = b }; returned = e }) q (f q)
  tracked_all b e v f is others own rest small turns straight q q_in = elim (cases_eq q r) [
    | inl same ↦ (
        let mine : IsTracked (record { run = record o.run { begun = b }; returned = e }) r (f r) =
        subst (λ (s : Robot). IsTracked (record { run = record o.run { begun = b }; returned = e }) r s) (sym own) (tracked_given b e v is small turns straight) in
        subst (λ (y : ℕ). IsTracked (record { run = record o.run { begun = b }; returned = e }) y (f y)) (sym same) mine)
    | inr other ↦ subst (λ (s : Robot). IsTracked (record { run = record o.run { begun = b }; returned = e }) q s) (sym (rest q other))
        (tracked_as o b o.run.reached e q (d.robot q) refl (others q other) (x.tracked q q_in))
  ]

module _ (d : Desk) (o : Course) (x : Executes d o) (all : AreReturned o) (r t : ℕ) (b : ℕ → ℕ) (begins : Begins o.run r t b) where
  mate_free : (q : ℕ) → BeginsWith o.run.plan t r q → IsFree o.run q
  mate_free q with_it = elim begins.may [
    | inl alone ↦ elim with_it [
      | inl same ↦ subst (λ (y : ℕ). IsFree o.run y) (sym same) alone.free
      | inr turning ↦ absurd (alone_never_turns o.run r t x.course.lawful begins.inside alone turning.0)
    ]
    | inr turn ↦ elim with_it [
      | inl same ↦ subst (λ (y : ℕ). IsFree o.run y) (sym same) (turn.free r (record { count = zero; leads = refl }))
      | inr turning ↦ turn.free q turning.1
    ]
  ]

  next_it : (q : ℕ) → BeginsWith o.run.plan t r q → IsNext o.run q t
  next_it q with_it = next_of o.run r t b x.course.lawful begins q with_it

  own : b r ≡ t
  own = elim (begins.each r begins.inside) [ inl new ↦ new.1 | inr old ↦ absurd (old.0 (inl refl)) ]

  grown : (q : ℕ) → q < o.run.plan.robots → o.run.begun q ≤ b q
  grown q q_in = elim (begins.each q q_in) [
    | inl new ↦ omega (arith, new.1, (next_it q new.0).begins)
    | inr old ↦ omega (arith, old.1)
  ]

  one_by_one : (q s : ℕ) → q < o.run.plan.robots → Moves o.run.plan q s → s < b q → s ≤ o.run.reached q
  one_by_one q s q_in moves before = elim (begins.each q q_in) [
    | inr old ↦ x.course.one q s q_in moves (omega (arith, before, old.1))
    | inl new ↦ elim (cases_lt (o.run.begun q) s) [
      | inl later ↦ absurd ((next_it q new.0).first s later (omega (arith, before, new.1)) moves)
      | inr early ↦ omega (arith, early, (mate_free q new.0).stands)
    ]
  ]

  course_now : IsCourse (record { run = record o.run { begun = b }; returned = put o.returned r t })
  course_now = record {
    lawful = begun_lawful o.run r t b x.course.lawful begins;
    one = one_by_one;
    low = λ q q_in. elim (cases_eq q r) [
      | inl same ↦ (
          let v = put_same o.returned r t q same in
          let h : o.run.reached q ≤ o.run.begun q = x.course.lawful.behind q q_in in
          let l : o.run.begun q < t = (next_it q (inl same)).begins in
          omega (arith, v, h, l))
      | inr other ↦ omega (arith, put_other o.returned r t q other, x.course.low q q_in)
    ];
    high = λ q q_in. elim (cases_eq q r) [
      | inl same ↦ omega (arith, put_same o.returned r t q same, own, ap b same)
      | inr other ↦ omega (arith, put_other o.returned r t q other, x.course.high q q_in, grown q q_in)
    ];
  }

  kept_now : IsKept d.ahead o.run.plan.steps t
  kept_now = is_kept d o x r t begins.inside (next_it r (inl refl))

  -- a robot begins alone
  pub begun_alone : MayBeginAlone o.run r t → (f : ℕ → Robot) (ready : List ℕ) (k : Option Turning) → k ≡ None
      → f r ≡ given_robot d r t (d.robot r).turned → ((q : ℕ) → q ≢ r → f q ≡ d.robot q)
      → ((q : ℕ) → IsIn d.ready q → (q ≡ r) ⊎ IsIn ready q)
      → (o.run.clearance ≡ Started → (g : ℕ) → g < o.run.plan.robots → (d.window r t).follower ≡ Some g → IsIn ready g)
      → Executes (record d { robot = f; ready = ready; turning = k }) (record { run = record o.run { begun = b }; returned = put o.returned r t })
  begun_alone alone f ready k nobody f_own f_rest split wakes =
      let before : (d.robot r).turned < t = omega (arith, (x.tracked r begins.inside).turned_before, x.course.high r begins.inside, alone.next.begins) in
      record {
        clearance = x.clearance;
        robots = x.robots;
        steps = x.steps;
        course = course_now;
        knows = x.knows;
        tracked = tracked_all d o x r t begins.inside kept_now b (put o.returned r t) (d.robot r).turned f (put_same o.returned r t r refl) (λ q other. put_other o.returned r t q other)
            f_own f_rest (omega (arith, before)) (λ now. absurd (omega (arith, now, before))) (λ turns. absurd (alone_never_turns o.run r t x.course.lawful begins.inside alone turns));
        turning = subst (λ (y : Option Turning). IsTurningOf (record { run = record o.run { begun = b }; returned = put o.returned r t }) y) (sym nobody) all_now;
        counts = x.counts;
        completes = completes_begun d o x r t b begins ready split (λ may. wakes);
      }
    where
      all_now : (q : ℕ) → q < o.run.plan.robots → put o.returned r t q ≡ b q
      all_now q q_in = elim (begins.each q q_in) [
        | inl new ↦ elim new.0 [
          | inl same ↦ put_same o.returned r t q same ∙ sym new.1
          | inr turning ↦ absurd (alone_never_turns o.run r t x.course.lawful begins.inside alone turning.0)
        ]
        | inr old ↦ put_other o.returned r t q (λ same. old.0 (inl same)) ∙ (all q q_in ∙ sym old.1)
      ]

  module _ (turn : MayTurn o.run r t) where
    next_robot : ℕ
    next_robot = before_in d.window t r

    turning_now : IsTurning (record { run = record o.run { begun = b }; returned = put o.returned r t }) (record { step = t; first = r; next = before_in d.window t r })
    turning_now =
        let free = free_of_conflicts d o x in
        let m = member o.run.plan d.ahead d.cells d.window d.leave x.knows free t kept_now r 1 begins.inside turn.turns in
        let follows = follows_next o.run.plan d.ahead d.cells d.window d.leave x.knows free t kept_now r 0 begins.inside turn.turns in
        let other : before_in d.window t r ≢ r = λ same. follows.enters.other (sym follows.leaves.cell ∙ ap (o.run.plan.cell (t - 1)) same) in
        record {
          first_in = begins.inside;
          next_in = m.inside;
          planned = kept_now.planned;
          turns = turn.turns;
          begun = λ q mate. elim (begins.each q (leads_inside o.run.plan t mate.count r q begins.inside mate.leads)) [
            | inl new ↦ new.1
            | inr old ↦ absurd (old.0 (inr (turn.turns, mate)))
          ];
          given = put_same o.returned r t r refl;
          mate = m.mate;
          waits = omega (arith, put_other o.returned r t (before_in d.window t r) other, all (before_in d.window t r) m.inside, (turn.next (before_in d.window t r) m.mate).begins);
          led = (r, begins.inside, put_same o.returned r t r refl, follows);
          others = λ q q_in. elim (cases_eq q r) [
            | inl same ↦ inl (put_same o.returned r t q same ∙ sym (ap b same ∙ own))
            | inr else_one ↦ elim (begins.each q q_in) [
              | inr old ↦ inl (put_other o.returned r t q else_one ∙ (all q q_in ∙ sym old.1))
              | inl new ↦ elim new.0 [
                | inl same ↦ absurd (else_one same)
                | inr turning ↦ inr (turning.1, put_other o.returned r t q else_one ∙ (all q q_in ∙ (turn.free q turning.1).stands))
              ]
            ]
          ];
          follows = λ p q mate given q_in p_follows. elim (cases_eq p r) [
            | inl same ↦ inr (free.distinct (t - 1) q _ (omega (arith, kept_now.planned)) q_in m.inside
                (p_follows.leaves.cell ∙ (ap (o.run.plan.cell t) same ∙ sym follows.leaves.cell)))
            | inr else_one ↦ absurd (
                let p_in = leads_inside o.run.plan t mate.count r p begins.inside mate.leads in
                omega (arith, given, put_other o.returned r t p else_one, all p p_in, (turn.next p mate).begins))
          ];
          entered = λ q mate given. elim (cases_eq q r) [
            | inl same ↦ inl same
            | inr else_one ↦ absurd (
                let q_in = leads_inside o.run.plan t mate.count r q begins.inside mate.leads in
                omega (arith, given, put_other o.returned r t q else_one, all q q_in, (turn.next q mate).begins))
          ];
        }

    -- a robot begins with those that turn with it
    pub begun_turn : (f : ℕ → Robot) (ready : List ℕ) → f r ≡ given_robot d r t t → ((q : ℕ) → q ≢ r → f q ≡ d.robot q)
        → ((q : ℕ) → IsIn d.ready q → (q ≡ r) ⊎ IsIn ready q)
        → Executes (record d { robot = f; ready = ready; turning = Some (record { step = t; first = r; next = before_in d.window t r }) })
        (record { run = record o.run { begun = b }; returned = put o.returned r t })
    begun_turn f ready f_own f_rest split = record {
      clearance = x.clearance;
      robots = x.robots;
      steps = x.steps;
      course = course_now;
      knows = x.knows;
      tracked = tracked_all d o x r t begins.inside kept_now b (put o.returned r t) t f (put_same o.returned r t r refl) (λ q other. put_other o.returned r t q other)
          f_own f_rest (omega arith) (λ now. turn.turns) (λ turns. refl);
      turning = turning_now;
      counts = x.counts;
      completes = completes_begun d o x r t b begins ready split (λ alone. absurd (alone_never_turns o.run r t x.course.lawful begins.inside alone turn.turns));
    }
