-- A report.
use Rattle.std.proofs.Common.{◌≡◌, ◌≢◌, ℕ, suc, ◌-◌, ◌%◌, ◌<◌, ◌≤◌, inl, inr, Bool, true, false, not, ◌&&◌, eqb, ltb, List, Option, Some, None, refl, sym, ◌∙◌, ap, subst, arith, rules}
use Rattle.std.proofs.lemmas.Bool.{cases_eq, cases_lt, ne_eqb}
use Rattle.std.proofs.lemmas.Bool.Decides.{eqb_tells}
use Rattle.execution_law.specs.Run.{Plan, Moves}
use Rattle.execution_law.proofs.Kept.{reported_lawful}
use Rattle.fleet_execution.specs.declared.robot.Robot.{Robot}
use Rattle.fleet_execution.specs.declared.robot.Turning.{Turning}
use Rattle.fleet_execution.specs.Course.{Course, put}
use Rattle.fleet_execution.specs.Desk.{Desk}
use Rattle.fleet_execution.specs.Executes.{IsKept, IsTracked, IsTurningOf, IsCourse, Counts, count_below, is_open, IsIn, Executes}
use Rattle.fleet_execution.proofs.Counting.{count_same, count_less}
use Rattle.fleet_execution.proofs.Places.{places_apart, one_place}
use Rattle.fleet_execution.proofs.Asked.{kept_at, late_from}
use Rattle.fleet_execution.proofs.Put.{put_same, put_other}
use Rattle.fleet_execution.proofs.Given.{tracked_as}
use Rattle.fleet_execution.specs.Executes.{Wakes}
use Rattle.fleet_execution.proofs.Arrived.{reports, completes_reported}

-- a robot of which a move was returned that it has not reached: that is its last
pub returned_last_by : (o : Course) (k : Option Turning) → IsTurningOf o k → (r : ℕ) → r < o.run.plan.robots → o.run.reached r < o.returned r → o.returned r ≡ o.run.begun r
returned_last_by o None all r inside less = all r inside
returned_last_by o (Some k) turning r inside less = elim (turning.others r inside) [ inl same ↦ same | inr both ↦ absurd (omega (arith, less, both.1)) ]

pub returned_last : (d : Desk) (o : Course) → Executes d o → (r : ℕ) → r < o.run.plan.robots → o.run.reached r < o.returned r → o.returned r ≡ o.run.begun r
returned_last d o x = returned_last_by o d.turning x.turning

-- when a move is open
pub open_is : (plan : Plan) (reached : ℕ → ℕ) (t r : ℕ) → 0 < t → Moves plan r t → reached r < t → is_open plan reached t r ≡ true
open_is plan reached t r some moves less =
    let other : eqb (plan.cell t r) (plan.cell (t - 1) r) ≡ false = ne_eqb (plan.cell t r) (plan.cell (t - 1) r) moves.other in
    let small : ltb (reached r) t ≡ true = search rules in
    rw (other, small) refl

pub closed_by_reached : (plan : Plan) (reached : ℕ → ℕ) (t r : ℕ) → t ≤ reached r → is_open plan reached t r ≡ false
closed_by_reached plan reached t r more =
    let large : ltb (reached r) t ≡ false = search rules in
    and_false (not (eqb (plan.cell t r) (plan.cell (t - 1) r))) (ltb (reached r) t) large
  where
    and_false : (a b : Bool) → b ≡ false → (a && b) ≡ false
    and_false true b e = e
    and_false false b e = refl

pub closed_by_staying : (plan : Plan) (reached : ℕ → ℕ) (t r : ℕ) → plan.cell t r ≡ plan.cell (t - 1) r → is_open plan reached t r ≡ false
closed_by_staying plan reached t r same = elim (eqb_tells (plan.cell t r) (plan.cell (t - 1) r)) [
  | inl it_is ↦ rw it_is.0 refl
  | inr it_is_not ↦ absurd (it_is_not.1 same)
]

-- what an open move is
pub open_moves : (plan : Plan) (reached : ℕ → ℕ) (t r : ℕ) → 0 < t → is_open plan reached t r ≡ true → Moves plan r t × (reached r < t)
open_moves plan reached t r some is = (
  record { later = some; other = λ same. two (sym is ∙ closed_by_staying plan reached t r same) },
  elim (cases_lt (reached r) t) [ inl less ↦ less | inr more ↦ absurd (two (sym is ∙ closed_by_reached plan reached t r more)) ],
)
  where
    two : true ≡ false → ⊥
    two e = cc

module _ (d : Desk) (o : Course) (x : Executes d o) (r t : ℕ) (inside : r < o.run.plan.robots) (given : o.returned r ≡ t) (under_way : o.run.reached r < t) (ready : List ℕ)
    (more : (q : ℕ) → IsIn d.ready q → IsIn ready q) (mine : IsIn ready r) (wakes : Wakes d o.run (put o.run.reached r t) ready r t) where
  at : o.run.begun r ≡ t
  at = sym (returned_last d o x r inside (omega (arith, under_way, given))) ∙ given

  moves : Moves o.run.plan r t
  moves = subst (λ (y : ℕ). Moves o.run.plan r y) at (x.course.lawful.moves r inside (omega (arith, at, under_way)))

  pub kept_report : IsKept d.ahead o.run.plan.steps t
  kept_report = kept_at d o x t moves.later (omega (arith, at, x.steps, x.course.lawful.within r inside)) (late_from d o x r t inside moves under_way)

  further : (q : ℕ) → o.run.reached q ≤ put o.run.reached r t q
  further q = elim (cases_eq q r) [
    | inl same ↦ omega (arith, put_same o.run.reached r t q same, ap o.run.reached same, under_way)
    | inr other ↦ omega (arith, put_other o.run.reached r t q other)
  ]

  course_reported : IsCourse (record o { run = record o.run { reached = put o.run.reached r t } })
  course_reported = record {
    lawful = reported_lawful o.run r (put o.run.reached r t) x.course.lawful (reports d o x r t inside at under_way ready more mine wakes);
    one = λ q s q_in q_moves before. omega (arith, x.course.one q s q_in q_moves before, further q);
    low = λ q q_in. elim (cases_eq q r) [
      | inl same ↦ omega (arith, put_same o.run.reached r t q same, ap o.returned same, given)
      | inr other ↦ omega (arith, put_other o.run.reached r t q other, x.course.low q q_in)
    ];
    high = x.course.high;
  }

  -- whether other moves of the robot are open stays
  same_open : (u q : ℕ) → 0 < u → q < o.run.plan.robots → u ≢ t → is_open o.run.plan o.run.reached u q ≡ is_open o.run.plan (put o.run.reached r t) u q
  same_open u q some q_in apart = elim (cases_eq q r) [
    | inr other ↦ ap (λ (y : ℕ). not (eqb (o.run.plan.cell u q) (o.run.plan.cell (u - 1) q)) && ltb y u) (sym (put_other o.run.reached r t q other))
    | inl same ↦ elim (cases_eq (o.run.plan.cell u q) (o.run.plan.cell (u - 1) q)) [
      | inl stays ↦ closed_by_staying o.run.plan o.run.reached u q stays ∙ sym (closed_by_staying o.run.plan (put o.run.reached r t) u q stays)
      | inr leaves ↦ (
          let q_moves : Moves o.run.plan q u = record { later = some; other = leaves } in
          let v = put_same o.run.reached r t q same in
          let b : o.run.begun q ≡ t = ap o.run.begun same ∙ at in
          elim (cases_lt u t) [
            | inl less ↦ (
                let done = x.course.one q u q_in q_moves (omega (arith, less, b)) in
                closed_by_reached o.run.plan o.run.reached u q done ∙ sym (closed_by_reached o.run.plan (put o.run.reached r t) u q (omega (arith, less, v))))
            | inr late ↦ (
                let far : t < u = elim (cases_lt t u) [ inl far ↦ far | inr near ↦ absurd (apart (omega (arith, late, near))) ] in
                let was : o.run.reached q ≡ o.run.reached r = ap o.run.reached same in
                open_is o.run.plan o.run.reached u q some q_moves (omega (arith, was, under_way, far)) ∙ sym (open_is o.run.plan (put o.run.reached r t) u q some q_moves (omega (arith, v, far))))
          ])
    ]
  ]

  open_now : is_open o.run.plan o.run.reached t r ≡ true
  open_now = open_is o.run.plan o.run.reached t r moves.later moves under_way

  closed_now : is_open o.run.plan (put o.run.reached r t) t r ≡ false
  closed_now = closed_by_reached o.run.plan (put o.run.reached r t) t r (omega (arith, put_same o.run.reached r t r refl))

  one_less : count_below o.run.plan.robots (is_open o.run.plan o.run.reached t) ≡ suc (count_below o.run.plan.robots (is_open o.run.plan (put o.run.reached r t) t))
  one_less = count_less o.run.plan.robots r (is_open o.run.plan o.run.reached t) (is_open o.run.plan (put o.run.reached r t) t) inside open_now closed_now
      (λ q q_in other. ap (λ (y : ℕ). not (eqb (o.run.plan.cell t q) (o.run.plan.cell (t - 1) q)) && ltb y t) (sym (put_other o.run.reached r t q other)))

  pub some_open : 0 < d.unreached (t % d.ahead)
  some_open = omega (arith, x.counts.kept t kept_report, one_less)

  module _ (n : ℕ → ℕ) (here : n (t % d.ahead) ≡ d.unreached (t % d.ahead) - 1) (there : (k : ℕ) → k ≢ t % d.ahead → n k ≡ d.unreached k) where
    counts_reported : Counts o.run.plan (put o.run.reached r t) d.ahead n
    counts_reported = record {
      kept = λ u kept. elim (cases_eq u t) [
        | inl same ↦ (
            let c : n (t % d.ahead) ≡ count_below o.run.plan.robots (is_open o.run.plan (put o.run.reached r t) t) = omega (arith, here, x.counts.kept t kept_report, one_less) in
            subst (λ (y : ℕ). n (y % d.ahead) ≡ count_below o.run.plan.robots (is_open o.run.plan (put o.run.reached r t) y)) (sym same) c)
        | inr apart ↦ there (u % d.ahead) (λ e. apart (one_place d.ahead o.run.plan.steps u t kept kept_report e))
            ∙ (x.counts.kept u kept ∙ count_same o.run.plan.robots (is_open o.run.plan o.run.reached u) (is_open o.run.plan (put o.run.reached r t) u) (λ q q_in. same_open u q kept.some q_in apart))
      ];
      blank = λ u later small. there (u % d.ahead) (λ e. places_apart d.ahead t u (omega (arith, later, kept_report.planned)) (omega (arith, small, kept_report.some)) e) ∙ x.counts.blank u later small;
      old = λ q u q_in q_moves early. omega (arith, x.counts.old q u q_in q_moves early, further q);
    }

    pub reported : (f : ℕ → Robot) → f r ≡ record (d.robot r) { reached = t; cell = (d.robot r).bound } → ((q : ℕ) → q ≢ r → f q ≡ d.robot q)
        → Executes (record d { robot = f; ready = ready; unreached = n }) (record o { run = record o.run { reached = put o.run.reached r t } })
    reported f own rest = record {
      clearance = x.clearance;
      robots = x.robots;
      steps = x.steps;
      course = course_reported;
      knows = x.knows;
      tracked = λ q q_in. elim (cases_eq q r) [
        | inl same ↦ subst (λ (y : ℕ). IsTracked (record o { run = record o.run { reached = put o.run.reached r t } }) y (f y)) (sym same)
            (subst (λ (s : Robot). IsTracked (record o { run = record o.run { reached = put o.run.reached r t } }) r s) (sym own) tracked_now)
        | inr other ↦ subst (λ (s : Robot). IsTracked (record o { run = record o.run { reached = put o.run.reached r t } }) q s) (sym (rest q other))
            (tracked_as o o.run.begun (put o.run.reached r t) o.returned q (d.robot q) (put_other o.run.reached r t q other) refl (x.tracked q q_in))
      ];
      turning = turning_reported d.turning x.turning;
      counts = counts_reported;
      completes = completes_reported d o x r t inside at under_way ready more mine wakes;
    }
      where
        tracked_now : IsTracked (record o { run = record o.run { reached = put o.run.reached r t } }) r (record (d.robot r) { reached = t; cell = (d.robot r).bound })
        tracked_now =
            let k = x.tracked r inside in
            let v = put_same o.run.reached r t r refl in
            record {
              reached = sym v;
              returned = k.returned;
              cell = k.bound ∙ ap (λ (y : ℕ). o.run.plan.cell y r) (given ∙ sym v);
              bound = k.bound;
              last = k.last;
              turned_before = k.turned_before;
              turned = k.turned;
              straight = k.straight;
            }

        turning_reported : (k : Option Turning) → IsTurningOf o k → IsTurningOf (record o { run = record o.run { reached = put o.run.reached r t } }) k
        turning_reported None all = all
        turning_reported (Some k) turning = record {
          first_in = turning.first_in;
          next_in = turning.next_in;
          planned = turning.planned;
          turns = turning.turns;
          begun = turning.begun;
          given = turning.given;
          mate = turning.mate;
          waits = turning.waits;
          led = turning.led;
          others = λ q q_in. elim (turning.others q q_in) [
            | inl same ↦ inl same
            | inr both ↦ elim (cases_eq q r) [
              | inl same ↦ absurd (omega (arith, both.1, ap o.returned same, ap o.run.reached same, given, under_way))
              | inr other ↦ inr (both.0, both.1 ∙ sym (put_other o.run.reached r t q other))
            ]
          ];
          follows = turning.follows;
          entered = turning.entered;
        }
