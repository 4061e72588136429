-- What is kept of robots agrees with their course, whatever happens.
use Rattle.std.proofs.Common.{◌≡◌, ◌≢◌, ℕ, zero, suc, ◌+◌, ◌-◌, ◌<◌, ◌≤◌, ◌⊎◌, inl, inr, Bool, true, false, not, leb, eqb, cond, List, [], ◌∷◌, ◌++◌, length, map, set, get_or, refl, sym, ◌∙◌, ap, subst, arith}
use Rattle.std.proofs.lemmas.Bool.{cases_eq, cases_lt, cases_Bool, eqb-true, eqb-false, leb-true, leb-false, le-leb, lt-leb}
use Rattle.std.proofs.lemmas.Bool.Decides.{eqb_tells}
use Rattle.std.proofs.lemmas.List.{length-set, length-map, get_or-set_same, get_or-set_other, get_or_past, get_or-map}
use Rattle.execution_law.specs.Run.{Plan, Run, Moves}
use Rattle.execution_law.specs.Change.{Reports}
use Rattle.fleet_execution.specs.Course.{Course, longer, with_step, put, course_at}
use Rattle.fleet_execution.specs.Executes.{Executes}
use Rattle.fleet_execution.specs.Kept.{Kept, desk}
use Rattle.execution_law.specs.declared.clearance.Clearance.{Clearance}
use Rattle.live_vehicles.specs.declared.place.Place.{Place}
use Rattle.live_vehicles.specs.declared.stand.Arrived.{Arrived}
use Rattle.live_vehicles.specs.declared.stand.Stand.{Stand}
use Rattle.live_vehicles.specs.Places.{nowhere, place_of, stepped, stand_of, is_there, is_late}
use Rattle.live_vehicles.specs.Follows.{IsPlaced, Tracks, IsAwaited, Stands, IsOn, with_reached, HasTaken}
use Rattle.live_vehicles.proofs.Lists.{cond_by, cond_else, not_false}

put_same : (f : ℕ → ℕ) (r v q : ℕ) → q ≡ r → put f r v q ≡ v
put_same f r v q same = elim (eqb_tells q r) [ inl yes_is ↦ rw yes_is.0 refl | inr not_is ↦ absurd (not_is.1 same) ]

put_other : (f : ℕ → ℕ) (r v q : ℕ) → q ≢ r → put f r v q ≡ f q
put_other f r v q other = elim (eqb_tells q r) [ inl yes_is ↦ absurd (other yes_is.1) | inr not_is ↦ rw not_is.0 refl ]

-- ---- a further step

module _ (plan : Plan) (to : List ℕ) where
  cell_old : (t r : ℕ) → t ≤ plan.steps → (longer plan to).cell t r ≡ plan.cell t r
  cell_old t r small = cond_by _ _ _ (le-leb t plan.steps small)

  cell_new : (t r : ℕ) → plan.steps < t → (longer plan to).cell t r ≡ get_or to r 0
  cell_new t r large = cond_else _ _ _ (lt-leb t plan.steps large)

  moves_on : (r t : ℕ) → t ≤ plan.steps → Moves plan r t → Moves (longer plan to) r t
  moves_on r t small m = record { later = m.later; other = λ same. m.other (sym (cell_old t r small) ∙ (same ∙ cell_old (t - 1) r (omega arith))) }

  moves_back : (r t : ℕ) → t ≤ plan.steps → Moves (longer plan to) r t → Moves plan r t
  moves_back r t small m = record { later = m.later; other = λ same. m.other (cell_old t r small ∙ (same ∙ sym (cell_old (t - 1) r (omega arith)))) }

module _ (o : Course) (to : List ℕ) (r : ℕ) (p : Place) (x : IsPlaced o r p) where
  stays : get_or to r 0 ≡ p.cell → IsPlaced (with_step o to) r p
  stays same = record {
    within = omega (arith, x.within);
    still = λ t low high. elim (cases_lt o.run.plan.steps t) [
      | inl new ↦ cell_new o.run.plan to t r new ∙ same
      | inr old ↦ cell_old o.run.plan to t r old ∙ x.still t low old
    ];
    moves = λ some. moves_on o.run.plan to r p.moved x.within (x.moves some);
    begun = x.begun;
    reached = x.reached;
  }

  moved : (step : ℕ) → step ≡ o.run.plan.steps + 1 → (get_or to r 0 ≡ p.cell → ⊥) → IsPlaced (with_step o to) r (record p { cell = get_or to r 0; moved = step })
  moved step next other = record {
    within = omega (arith, next);
    still = λ t low high. cell_new o.run.plan to t r (omega (arith, next, low));
    moves = λ some. record {
      later = some;
      other = λ same. other (
          sym (cell_new o.run.plan to step r (omega (arith, next)))
          ∙ (same ∙ (cell_old o.run.plan to (step - 1) r (omega (arith, next)) ∙ x.still (step - 1) (omega (arith, next, x.within)) (omega (arith, next)))));
    };
    begun = x.begun;
    reached = x.reached;
  }

  pub placed_step : (step : ℕ) → step ≡ o.run.plan.steps + 1 → IsPlaced (with_step o to) r (stepped step (get_or to r 0) p)
  placed_step step next = elim (eqb_tells (get_or to r 0) p.cell) [
    | inl yes_is ↦ subst (IsPlaced (with_step o to) r) (sym (cond_by _ _ _ yes_is.0)) (stays yes_is.1)
    | inr not_is ↦ subst (IsPlaced (with_step o to) r) (sym (cond_else _ _ _ not_is.0)) (moved step next not_is.1)
  ]

pub tracks_step : (kept new : Kept) (places news : List Place) (o : Course) (to : List ℕ) (step : ℕ) → Tracks kept places o → Executes (desk new) (with_step o to) → step ≡ o.run.plan.steps + 1 → length news ≡ length places
    → ((r : ℕ) → r < length places → place_of news r ≡ stepped step (get_or to r 0) (place_of places r)) → Tracks new news (with_step o to)
tracks_step kept new places news o to step x executes next size each = record {
  executes = executes;
  count = size ∙ x.count;
  placed = λ r inside. subst (IsPlaced (with_step o to) r) (sym (each r (omega (arith, x.count, inside)))) (placed_step o to r (place_of places r) (x.placed r inside) step next);
}

pub awaited_step : (o : Course) (to : List ℕ) (s : Stand) → IsAwaited o s → IsAwaited (with_step o to) s
awaited_step o to s x = record {
  inside = x.inside;
  before = x.before;
  planned = omega (arith, x.planned);
  moves = moves_on o.run.plan to s.robot s.last (omega (arith, x.before, x.planned)) x.moves;
  still = λ t low high. cell_old o.run.plan to t s.robot (omega (arith, high, x.planned)) ∙ x.still t low high;
  late = x.late;
}

-- ---- where a robot is, at the last planned step

module _ (kept : Kept) (places : List Place) (o : Course) (x : Tracks kept places o) where
  abbrev pub place : ℕ → Place
  place r = place_of places r

  -- its last move is the last that has begun, or a later one
  begun_low : (r : ℕ) → r < o.run.plan.robots → o.run.begun r ≤ (place r).moved
  begun_low r inside = elim (cases_lt (place r).moved (o.run.begun r)) [
    | inr low ↦ low
    | inl high ↦ (
        let at = x.placed r inside in
        let small : o.run.begun r ≤ o.run.plan.steps = x.executes.course.lawful.within r inside in
        let moves = x.executes.course.lawful.moves r inside (omega (arith, high)) in
        absurd (moves.other (at.still (o.run.begun r) (omega (arith, high)) small ∙ sym (at.still (o.run.begun r - 1) (omega (arith, high)) (omega (arith, small))))))
  ]

  -- where the last planned move is reached, nothing is left
  module _ (r : ℕ) (inside : r < o.run.plan.robots) (there : (place r).moved ≤ (place r).reached) where
    at : IsPlaced o r (place r)
    at = x.placed r inside

    low : o.run.reached r ≤ o.returned r
    low = x.executes.course.low r inside

    high : o.returned r ≤ o.run.begun r
    high = x.executes.course.high r inside

    same : o.run.reached r ≡ (place r).moved
    same = omega (arith, there, at.reached, low, high, begun_low r inside)

    pub stands_now : (s : Stand) → s.robot ≡ r → s.cell ≡ (place r).cell → s.step ≡ o.run.plan.steps → Stands o s
    stands_now s is cell step = subst (λ (q : ℕ). Stands o (record s { robot = q })) (sym is) (record {
      reached = λ t early moves. elim (cases_lt (o.run.reached r) t) [
        | inr is_low ↦ is_low
        | inl late ↦ absurd (moves.other (at.still t (omega (arith, same, late)) (omega (arith, early, step)) ∙ sym (at.still (t - 1) (omega (arith, same, late)) (omega (arith, early, step)))))
      ];
      cell = at.still (o.run.reached r) (omega (arith, same)) (omega (arith, same, at.within)) ∙ sym cell;
      still = omega (arith, low, high, begun_low r inside, same);
    })

  -- an arrival in the last planned step
  pub new_there : (step : ℕ) → step ≡ o.run.plan.steps → (a : Arrived) → is_there places (stand_of places step a) ≡ true → IsOn o (stand_of places step a)
  new_there step is a there inside = stands_now a.robot inside (leb-true (place a.robot).moved (place a.robot).reached there) (stand_of places step a) refl refl is

  past : (r : ℕ) → o.run.plan.robots ≤ r → place r ≡ nowhere
  past r out = get_or_past places r nowhere (omega (arith, x.count, out))

  pub new_late : (step : ℕ) → step ≡ o.run.plan.steps → (a : Arrived) → is_late places (stand_of places step a) ≡ true → IsAwaited o (stand_of places step a)
  new_late step is a late = elim (cases_lt a.robot o.run.plan.robots) [
    | inl inside ↦ (
        let at = x.placed a.robot inside in
        let less : (place a.robot).reached < (place a.robot).moved = leb-false (place a.robot).moved (place a.robot).reached (not_false _ late) in
        record {
          inside = inside;
          before = omega (arith, at.within, is);
          planned = omega (arith, is);
          moves = at.moves (omega (arith, less));
          still = λ t low high. at.still t low (omega (arith, high, is));
          late = omega (arith, less, at.reached);
        })
    | inr out ↦ (
        let less : (place a.robot).reached < (place a.robot).moved = leb-false (place a.robot).moved (place a.robot).reached (not_false _ late) in
        let bad : nowhere.reached < nowhere.moved = subst (λ (p : Place). p.reached < p.moved) (past a.robot out) less in
        absurd (omega (arith, bad)))
  ]

-- ---- a beginning

module _ (o : Course) (run : Run) (returned : ℕ → ℕ) (plan : run.plan ≡ o.run.plan) (reached : (r : ℕ) → run.reached r ≡ o.run.reached r) where
  abbrev pub course_on : Course
  course_on = record { run = run; returned = returned }

  placed_on : (r : ℕ) (at : Place) (b : ℕ) → b ≡ returned r → IsPlaced o r at → IsPlaced course_on r (record at { begun = b })
  placed_on r at b is x = record {
    within = subst (λ (q : Plan). at.moved ≤ q.steps) (sym plan) x.within;
    still = subst (λ (q : Plan). (t : ℕ) → at.moved ≤ t → t ≤ q.steps → q.cell t r ≡ at.cell) (sym plan) x.still;
    moves = subst (λ (q : Plan). 0 < at.moved → Moves q r at.moved) (sym plan) x.moves;
    begun = is;
    reached = x.reached ∙ sym (reached r);
  }

  pub awaited_on : (s : Stand) → IsAwaited o s → IsAwaited course_on s
  awaited_on s x = record {
    inside = subst (λ (q : Plan). s.robot < q.robots) (sym plan) x.inside;
    before = x.before;
    planned = subst (λ (q : Plan). s.step ≤ q.steps) (sym plan) x.planned;
    moves = subst (λ (q : Plan). Moves q s.robot s.last) (sym plan) x.moves;
    still = subst (λ (q : Plan). (t : ℕ) → s.last ≤ t → t ≤ s.step → q.cell t s.robot ≡ s.cell) (sym plan) x.still;
    late = omega (arith, reached s.robot, x.late);
  }

  pub tracks_begun : (kept new : Kept) (places : List Place) (m b : ℕ) → m < o.run.plan.robots → Tracks kept places o → Executes (desk new) course_on → returned m ≡ b → ((r : ℕ) → r ≢ m → returned r ≡ o.returned r)
      → Tracks new (set places m (record (place_of places m) { begun = b })) course_on
  tracks_begun kept new places m b inside x executes own others = record {
    executes = executes;
    count = length-set places m (record (place_of places m) { begun = b }) ∙ (x.count ∙ sym (ap (λ (q : Plan). q.robots) plan));
    placed = λ r r_in.
        let r_old : r < o.run.plan.robots = subst (λ (q : Plan). r < q.robots) plan r_in in
        elim (cases_eq r m) [
          | inl is ↦ subst (λ (q : ℕ). IsPlaced course_on q (place_of (set places m (record (place_of places m) { begun = b })) q)) (sym is)
              (subst (IsPlaced course_on m) (sym (get_or-set_same places m (record (place_of places m) { begun = b }) nowhere (omega (arith, x.count, inside)))) (placed_on m (place_of places m) b (sym own) (x.placed m inside)))
          | inr other ↦ subst (IsPlaced course_on r) (sym (get_or-set_other places m r (record (place_of places m) { begun = b }) nowhere other))
              (placed_on r (place_of places r) (place_of places r).begun ((x.placed r r_old).begun ∙ sym (others r other)) (x.placed r r_old))
        ];
  }

pub returned_own : (o : Course) (m b : ℕ) → put o.returned m b m ≡ b
returned_own o m b = put_same o.returned m b m refl

pub returned_others : (o : Course) (m b r : ℕ) → r ≢ m → put o.returned m b r ≡ o.returned r
returned_others o m b r other = put_other o.returned m b r other

-- ---- a report

module _ (kept new : Kept) (places : List Place) (o : Course) (x : Tracks kept places o) (m step : ℕ) (c : ℕ → ℕ) (reports : Reports o.run m c) (is : o.returned m ≡ step) (executes : Executes (desk new) (with_reached o c)) where
  -- its last move has begun, was returned, and is reached
  reached_is : c m ≡ step
  reached_is = omega (arith, is, reports.own, executes.course.low m reports.inside, executes.course.high m reports.inside)

  abbrev pub news : List Place
  news = set places m (record (place_of places m) { reached = step })

  placed_report : (r : ℕ) (spot : Place) (b : ℕ) → b ≡ c r → IsPlaced o r spot → IsPlaced (with_reached o c) r (record spot { reached = b })
  placed_report r spot b same y = record { within = y.within; still = y.still; moves = y.moves; begun = y.begun; reached = same }

  pub tracks_report : Tracks new news (with_reached o c)
  tracks_report = record {
    executes = executes;
    count = length-set places m (record (place_of places m) { reached = step }) ∙ x.count;
    placed = λ r inside. elim (cases_eq r m) [
      | inl same ↦ subst (λ (q : ℕ). IsPlaced (with_reached o c) q (place_of news q)) (sym same)
          (subst (IsPlaced (with_reached o c) m) (sym (get_or-set_same places m (record (place_of places m) { reached = step }) nowhere (omega (arith, x.count, reports.inside)))) (placed_report m (place_of places m) step (sym reached_is) (x.placed m reports.inside)))
      | inr other ↦ subst (IsPlaced (with_reached o c) r) (sym (get_or-set_other places m r (record (place_of places m) { reached = step }) nowhere other))
          (placed_report r (place_of places r) (place_of places r).reached ((x.placed r inside).reached ∙ sym (reports.others r inside other)) (x.placed r inside))
    ];
  }

  pub taken : HasTaken o m step new news
  taken = record { reached = c; reports = reports; step_is = reached_is; tracks = tracks_report }

-- those that waited, after a report
module _ (kept new : Kept) (places news : List Place) (o : Course) (x : Tracks kept places o) (m step : ℕ) (taken : HasTaken o m step new news) (s : Stand) (y : IsAwaited o s) where
  abbrev pub far : ℕ → ℕ
  far = taken.reached

  now : IsPlaced (with_reached o far) s.robot (place_of news s.robot)
  now = taken.tracks.placed s.robot y.inside

  pub still_late : is_late news s ≡ true → IsAwaited (with_reached o far) s
  still_late late =
      let less : (place_of news s.robot).reached < s.last = leb-false s.last (place_of news s.robot).reached (not_false _ late) in
      record { inside = y.inside; before = y.before; planned = y.planned; moves = y.moves; still = y.still; late = omega (arith, less, now.reached) }

  module _ (there : is_there news s ≡ true) where
    more : s.last ≤ far s.robot
    more = omega (arith, leb-true s.last (place_of news s.robot).reached there, now.reached)

    own : s.robot ≡ m
    own = elim (cases_eq s.robot m) [ inl is ↦ is | inr other ↦ absurd (omega (arith, taken.reports.others s.robot y.inside other, more, y.late)) ]

    begun_is : far s.robot ≡ o.run.begun s.robot
    begun_is = subst (λ (r : ℕ). far r ≡ o.run.begun r) (sym own) taken.reports.own

    last_is : s.last ≡ far s.robot
    last_is = elim (cases_lt s.last (o.run.begun s.robot)) [
      | inr large ↦ omega (arith, large, more, begun_is)
      | inl less ↦ absurd (omega (arith, x.executes.course.one s.robot s.last y.inside y.moves less, y.late))
    ]

    pub now_there : IsOn (with_reached o far) s
    now_there inside = record {
      reached = λ t early moves. elim (cases_lt (far s.robot) t) [
        | inr is_low ↦ is_low
        | inl late ↦ absurd (moves.other (y.still t (omega (arith, last_is, late)) early ∙ sym (y.still (t - 1) (omega (arith, last_is, late)) (omega (arith, early)))))
      ];
      cell = y.still (far s.robot) (omega (arith, last_is)) (omega (arith, last_is, y.before));
      still = omega (arith, begun_is, taken.tracks.executes.course.low s.robot inside, taken.tracks.executes.course.high s.robot inside);
    }

-- ---- the opening

pub tracks_open : (kept : Kept) (clearance : Clearance) (cells : List ℕ) (places : List Place) → Executes (desk kept) (course_at clearance cells) → places ≡ map (λ c. record { cell = c; moved = 0; begun = 0; reached = 0 }) cells
    → Tracks kept places (course_at clearance cells)
tracks_open kept clearance cells places executes are = record {
  executes = executes;
  count = ap length are ∙ length-map cells (λ c. record { cell = c; moved = 0; begun = 0; reached = 0 });
  placed = λ r inside. subst (IsPlaced (course_at clearance cells) r)
      (sym (ap (λ (ps : List Place). place_of ps r) are ∙ get_or-map (λ c. record { cell = c; moved = 0; begun = 0; reached = 0 }) cells r 0 nowhere inside))
      (record { within = omega arith; still = λ t low high. refl; moves = λ some. absurd (omega (arith, some)); begun = refl; reached = refl });
}
