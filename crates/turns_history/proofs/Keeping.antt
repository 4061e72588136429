-- The bound is kept by each entry, by whole histories and by chains of chapters.
use Rattle.std.proofs.Common.{◌≡◌, ℕ, zero, suc, ◌+◌, ◌-◌, ◌*◌, ◌<◌, ◌≤◌, List, [], ◌∷◌, ◌++◌, cond, Option, Some, sym, refl, ap, subst, ◌∙◌, arith}
use Rattle.std.specs.Prelude.{slice_index, count_by, min}
use Rattle.std.proofs.Math.Nat.{mul-le-mul_right, add-mul}
use Rattle.std.proofs.lemmas.List.{append_assoc}
use Rattle.std.proofs.lemmas.List.Sums.{sum_by-append}
use Rattle.fleet_grid.specs.Floor.{Floor}
use Rattle.fleet_hooks.specs.declared.law.TieLaw.{TieLaw}
use Rattle.fleet_queue.specs.declared.errand.Errand.{Errand}
use Rattle.fleet_book.specs.declared.order.Order.{Order}
use Rattle.fleet_book.specs.declared.verdict.Verdict.{Verdict}
use Rattle.fleet_history.specs.declared.history.Arrival.{Arrival}
use Rattle.fleet_history.specs.declared.history.Bye.{Bye}
use Rattle.fleet_history.specs.declared.history.Entry.{Entry}
use Rattle.fleet_history.specs.declared.history.Entry.TheVariants.{Take, Tick, Shut}
use Rattle.fleet_history.specs.declared.history.Opening.{Opening}
use Rattle.fleet_history.specs.History.{History, start, after, with_entries, robots, clock, front, is_tick}
use Rattle.fleet_history.specs.Laws.{EachTick}
use Rattle.fleet_history.specs.Legal.{IsLegal, IsInOrder, Fits, opened, grown}
use Rattle.fleet_history.specs.Next.{next_opening}
use Rattle.fleet_history.specs.Waits.{wait}
use Rattle.fleet_history.proofs.After.{clock-after}
use Rattle.fleet_history.proofs.Next.{next-robots}
use Rattle.fleet_history.proofs.Places.{legal-before}
use Rattle.fleet_planner.specs.Lending.{goal_at}
use Rattle.fleet_pibt.specs.Order.{wait_of}
use Rattle.fleet_planner.specs.Planned.{cell_of}
use Rattle.fleet_bound.specs.Reach.{reach}
use Rattle.fleet_bound.proofs.Reach.{reach-positive, reach-within}
use Rattle.turns_law.specs.Turns.{Turns, AreTurns}
use Rattle.turns_law.specs.ToGo.{AreLimits}
use Rattle.turns_law.specs.Fleet.{Fleet, IsFleet, IsPause, KeepsTurns, served_wait}
use Rattle.turns_law.proofs.Served.{served_from, served_some}
use Rattle.turns_law.proofs.Steps.{keeps_tick, keeps_pause, keeps_begun, keeps_below}
use Rattle.turns_history.specs.Fleets.{TurnLimits, AreTurnsFor, IsEarly, IsEntryInTurns, IsPlannedInTurns, as_fleet, limits_by}
use Rattle.turns_history.specs.Kept.{AreChaptersInTurns, AreServedBelow, IsServedAfter, IsLegalInTurns, KeepsTurnsAfter}
use Rattle.turns_history.proofs.Views.{fleet-legal, goal-at, waits-so, wait-at}
use Rattle.turns_history.proofs.Ticking.{tick-in-turns}
use Rattle.turns_history.proofs.Pausing.{take-in-turns, shut-in-turns, next-in-turns}

-- no more ticks were made before
pub early-before : {A : Type 0} (h : History A) (e : Entry A) → IsEarly (after h e) → IsEarly h
early-before h e early = omega (arith, early, clock-after h e)

pub early-prefix : {A : Type 0} (h : History A) (before behind : List (Entry A)) → h.entries ≡ before ++ behind → IsEarly h → IsEarly (with_entries h before)
early-prefix h before behind q early =
    let count : count_by is_tick h.entries ≡ count_by is_tick before + count_by is_tick behind = ap (count_by is_tick) q ∙ sum_by-append (λ e. cond (is_tick e) 1 0) before behind in
    omega (arith, early, count)

-- ---- one more entry

module _ {A : Type 0} (m : Floor) (t : Turns) (l : TurnLimits) where
  -- the fleet, by the number of robots that the turns are for
  pub fleet-of : (h : History A) → AreTurnsFor m t l (robots h) → IsLegal m h → IsEarly h → IsFleet m t.robots (as_fleet h)
  fleet-of h are legal early = subst (λ (n : ℕ). IsFleet m n (as_fleet h)) (sym are.robots) (fleet-legal m h legal early)

  pub begins-in-turns : (o : Opening A) → AreTurnsFor m t l (robots (start o)) → IsInOrder m o → IsEarly (start o) →
      ((r w : ℕ) → r < robots (start o) → wait (start o) r ≡ Some w → w ≡ 0) → KeepsTurnsAfter m t l (start o)
  begins-in-turns o are order early none =
      let f = as_fleet (start o) in
      keeps_begun m t are.turns l.reach l.depth l.turn are.limits f (fleet-of (start o) are (opened order) early)
      (λ r w known is. (
      let here : r < robots (start o) = subst (λ (n : ℕ). r < n) are.robots known in
      none r w here (waits-so (start o) r w here (served_some t (goal_at f.goals r) (wait_of f.waits r) w is).wait_is)))

  module _ (laws : List TieLaw) (h : History A) (are : AreTurnsFor m t l (robots h)) (legal : IsLegal m h) where
    pub take-keeps : (c : ℕ) (order : Order) (v : Verdict) → Fits m h (Take c order v) → IsEarly (after h (Take c order v)) → KeepsTurnsAfter m t l h → KeepsTurnsAfter m t l (after h (Take c order v))
    take-keeps c order v fits early keeps =
        keeps_pause m t are.turns l.reach l.depth l.turn are.limits (as_fleet h) (as_fleet (after h (Take c order v)))
        (fleet-of h are legal (early-before h (Take c order v) early)) (fleet-of (after h (Take c order v)) are (grown (Take c order v) legal fits refl) early)
        (subst (λ (n : ℕ). IsPause n (as_fleet h) (as_fleet (after h (Take c order v)))) (sym are.robots) (take-in-turns m h legal c order v fits.1)) keeps

    pub tick-keeps : (to : List ℕ) (arrived : List Arrival) (farewells : List Bye) → Fits m h (Tick to arrived farewells) → IsEarly (after h (Tick to arrived farewells)) → IsPlannedInTurns m t laws h to →
        KeepsTurnsAfter m t l h → KeepsTurnsAfter m t l (after h (Tick to arrived farewells))
    tick-keeps to arrived farewells fits early planned keeps =
        keeps_tick m t are.turns l.reach l.depth l.turn are.limits laws (as_fleet h) (as_fleet (after h (Tick to arrived farewells)))
        (fleet-of h are legal (early-before h (Tick to arrived farewells) early)) (fleet-of (after h (Tick to arrived farewells)) are (grown (Tick to arrived farewells) legal fits refl) early)
        (tick-in-turns m h to arrived farewells legal fits t laws planned) keeps

    pub entry-keeps : (e : Entry A) → Fits m h e → IsEarly (after h e) → IsEntryInTurns m t laws h e → KeepsTurnsAfter m t l h → KeepsTurnsAfter m t l (after h e)
    entry-keeps (Take c order v) fits early planned keeps = take-keeps c order v fits early keeps
    entry-keeps (Tick to arrived farewells) fits early planned keeps = tick-keeps to arrived farewells fits early planned keeps
    entry-keeps (Shut robot farewell) fits early planned keeps = subst (KeepsTurns m t l.reach l.depth l.turn) (sym (shut-in-turns h robot farewell)) keeps

  pub next-keeps : (h : History A) → IsLegal m h → KeepsTurnsAfter m t l h → KeepsTurnsAfter m t l (start (next_opening h))
  next-keeps h legal keeps = subst (KeepsTurns m t l.reach l.depth l.turn) (sym (next-in-turns m h legal)) keeps

  -- a served front is one of the turns
  pub served-front : (h : History A) (r w : ℕ) (x : Errand) → AreTurnsFor m t l (robots h) → r < robots h → front h r ≡ Some x → IsServedAfter t h x.cell → wait h r ≡ Some w →
      served_wait t (as_fleet h) r ≡ Some w
  served-front h r w x are known is served waited =
      let f = as_fleet h in
      let enough : t.robots ≤ slice_index t.capacity (slice_index t.core x.cell) = subst (λ (n : ℕ). n ≤ slice_index t.capacity (slice_index t.core x.cell)) (sym are.robots) served in
      served_from t (goal_at f.goals r) (wait_of f.waits r) x.cell (goal-at h r known ∙ ap cell_of is) enough ∙ (wait-at h r known ∙ waited)

  -- its wait is below the bound
  pub below-in-turns : (h : History A) → AreTurnsFor m t l (robots h) → IsLegal m h → IsEarly h → KeepsTurnsAfter m t l h → AreServedBelow t (robots h * l.turn) h
  below-in-turns h are legal early keeps r w x known is served waited =
      let there : r < t.robots = subst (λ (n : ℕ). r < n) (sym are.robots) known in
      subst (λ (n : ℕ). w < n * l.turn) are.robots
      (keeps_below m t are.turns l.reach l.depth l.turn are.limits (as_fleet h) (fleet-of h are legal early) keeps r w there (served-front h r w x are known is served waited))

-- ---- whole histories

module _ {A : Type 0} (P : History A → List ℕ → Type 0) where
  -- what holds of each tick held before the last entry
  pub each-before : (h : History A) (e : Entry A) → EachTick P (after h e) → EachTick P h
  each-before h e all before behind to arrived farewells q =
      all before (behind ++ e ∷ []) to arrived farewells (ap (λ es. es ++ e ∷ []) q ∙ append_assoc before (Tick to arrived farewells ∷ behind) (e ∷ []))

  each-prefix : (h : History A) (done rest : List (Entry A)) → h.entries ≡ done ++ rest → EachTick P h → EachTick P (with_entries h done)
  each-prefix h done rest q all before behind to arrived farewells p =
      all before (behind ++ rest) to arrived farewells (q ∙ ap (λ es. es ++ rest) p ∙ append_assoc before (Tick to arrived farewells ∷ behind) rest)

module _ {A : Type 0} (m : Floor) (t : Turns) (l : TurnLimits) (laws : List TieLaw) where
  -- the last entry is in turns too
  last-in-turns : (h : History A) (e : Entry A) → EachTick (IsPlannedInTurns m t laws) (after h e) → IsEntryInTurns m t laws h e
  last-in-turns h (Take c order v) all = tt
  last-in-turns h (Tick to arrived farewells) all = all h.entries [] to arrived farewells refl
  last-in-turns h (Shut robot farewell) all = tt

  keeps-legal : (h : History A) → AreTurnsFor m t l (robots h) → IsLegal m h → EachTick (IsPlannedInTurns m t laws) h → IsEarly h → KeepsTurnsAfter m t l (start h.opening) → KeepsTurnsAfter m t l h
  keeps-legal h are (opened order) planned early begins = begins
  keeps-legal g are (grown {h} e legal fits same) planned early begins =
      let are_h : AreTurnsFor m t l (robots h) = subst (λ (k : History A). AreTurnsFor m t l (robots k)) same are in
      let all = subst (λ (k : History A). EachTick (IsPlannedInTurns m t laws) k) same planned in
      let soon = subst (λ (k : History A). IsEarly k) same early in
      let from = subst (λ (k : History A). KeepsTurnsAfter m t l (start k.opening)) same begins in
      let before = keeps-legal h are_h legal (each-before (IsPlannedInTurns m t laws) h e all) (early-before h e soon) from in
      subst (λ (k : History A). KeepsTurnsAfter m t l k) (sym same) (entry-keeps m t l laws h are_h legal e fits soon (last-in-turns h e all) before)

  pub kept-in-turns : (h : History A) → AreTurnsFor m t l (robots h) → IsLegalInTurns m t laws h → KeepsTurnsAfter m t l (start h.opening) → KeepsTurnsAfter m t l h
  kept-in-turns h are so begins = keeps-legal h are so.legal so.planned so.early begins

  pub bounded-in-turns : (h : History A) (before behind : List (Entry A)) → AreTurnsFor m t l (robots h) → IsLegalInTurns m t laws h → KeepsTurnsAfter m t l (start h.opening) →
      h.entries ≡ before ++ behind → AreServedBelow t (robots h * l.turn) (with_entries h before)
  bounded-in-turns h before behind are so begins q =
      let legal = legal-before m h before behind so.legal q in
      let early = early-prefix h before behind q so.early in
      let keeps = keeps-legal (with_entries h before) are legal (each-prefix (IsPlannedInTurns m t laws) h before behind q so.planned) early begins in
      below-in-turns m t l (with_entries h before) are legal early keeps

  -- ---- chains of chapters

  module _ (chapters : ℕ → History A) (last : ℕ) (chain : AreChaptersInTurns m t laws chapters last) (are : AreTurnsFor m t l (robots (chapters 0))) (begins : KeepsTurnsAfter m t l (start (chapters 0).opening)) where
    starts-next : (k : ℕ) → k < last → start (chapters (k + 1)).opening ≡ start (next_opening (chapters k))
    starts-next k below = ap (λ (o : Opening A). start o) (chain.next k below)

    as-many : (k : ℕ) → k < last → robots (chapters (k + 1)) ≡ robots (chapters k)
    as-many k below = ap (λ (o : Opening A). robots (start o)) (chain.next k below) ∙ next-robots (chapters k)

    IsKeptAt : ℕ → Type 0
    IsKeptAt k = AreTurnsFor m t l (robots (chapters k)) × KeepsTurnsAfter m t l (chapters k)

    one-on : (k : ℕ) → k < last → IsKeptAt k → IsKeptAt (k + 1)
    unfolding IsKeptAt
    one-on k below was =
        let are_next : AreTurnsFor m t l (robots (chapters (k + 1))) = subst (λ (n : ℕ). AreTurnsFor m t l n) (sym (as-many k below)) was.0 in
        let from : KeepsTurnsAfter m t l (start (chapters (k + 1)).opening) =
        subst (λ (g : History A). KeepsTurnsAfter m t l g) (sym (starts-next k below)) (next-keeps m t l (chapters k) (chain.each k (omega (arith, below))).legal was.1) in
        (are_next, kept-in-turns (chapters (k + 1)) are_next (chain.each (k + 1) (omega (arith, below))) from)

    up-to : (k : ℕ) → k ≤ last → IsKeptAt k
    unfolding IsKeptAt
    up-to zero below = (are, kept-in-turns (chapters 0) are (chain.each 0 below) begins)
    up-to (suc k) below = subst IsKeptAt (let same : k + 1 ≡ suc k = omega arith in same) (one-on k (omega (arith, below)) (up-to k (omega (arith, below))))

    pub chapters-in-turns : KeepsTurnsAfter m t l (chapters last)
    unfolding IsKeptAt
    chapters-in-turns = (up-to last (omega arith)).1

-- ---- limits

span-more : (n k span : ℕ) → k + 1 ≤ n → span + k * span ≤ n * span
span-more n k span l = let h : (k + 1) * span ≤ n * span = mul-le-mul_right span l in omega (arith, h, add-mul k 1 span)

fewer-span : (a b span : ℕ) → a ≤ b → a * span ≤ b * span
fewer-span a b span l = mul-le-mul_right span l

pub span-limits : (m : Floor) (t : Turns) (span n : ℕ) → AreTurns m t → t.robots ≡ n → 1 ≤ n → reach m ≤ span → AreTurnsFor m t (limits_by span n) n
span-limits m t span n are many some far = record {
  turns = are;
  robots = many;
  limits = record {
    positive = omega (arith, far, reach-positive m);
    within = λ a b d is. omega (arith, far, reach-within m a b d is);
    deep = λ c floor has. (
        let short = reach-within m c (slice_index t.core c) (slice_index t.away c) (are.away.measured c floor) in
        omega (arith, short, far));
    least = (let more = span-more n 0 span some in omega (arith, more));
    rooms = λ c floor has. (
        let k = min (t.robots - 1) (slice_index t.size (slice_index t.door c)) in
        span-more n k span (omega (arith, many, some)));
  };
}
