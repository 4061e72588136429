-- An errand of a queue is gone in time, if it and all before it are served.
use Rattle.std.proofs.Common.{◌≡◌, ◌≢◌, ℕ, zero, suc, ◌+◌, ◌-◌, ◌*◌, ◌<◌, ◌≤◌, inl, inr, List, [], ◌∷◌, ◌++◌, length, drop, cond, Bool, true, false, Option, Some, not, sym, refl, ap, subst, ◌∙◌, arith}
use Rattle.std.specs.Prelude.{slice_get, slice_index, filter, Contains}
use Rattle.std.proofs.Math.Nat.{mul-le-mul_right, add-mul}
use Rattle.std.proofs.lemmas.Bool.{cases_eq, cases_Bool, eq-eqb, ne_eqb, or_left, or_right}
use Rattle.std.proofs.lemmas.List.Elements.{Contains-append_left, Contains-push}
use Rattle.fleet_grid.specs.Floor.{Floor}
use Rattle.fleet_hooks.specs.declared.law.TieLaw.{TieLaw}
use Rattle.fleet_queue.specs.declared.errand.Errand.{Errand}
use Rattle.fleet_book.specs.declared.order.Order.{Order}
use Rattle.fleet_book.specs.declared.verdict.Verdict.{Verdict}
use Rattle.fleet_history.specs.declared.history.Arrival.{Arrival}
use Rattle.fleet_history.specs.declared.history.Bye.{Bye}
use Rattle.fleet_history.specs.declared.history.Entry.{Entry}
use Rattle.fleet_history.specs.declared.history.Entry.TheVariants.{Take, Tick, Shut}
use Rattle.fleet_history.specs.History.{History, after, robots, place, front, unfinished, arrivals, arrivals_by, is_tick, gives_up, withdraws, is_withdrawn, errand_for}
use Rattle.fleet_history.specs.Legal.{IsLegal, Fits, grown}
use Rattle.fleet_history.specs.inside.Landing.{landed}
use Rattle.fleet_history.proofs.After.{arrivals-after, place-after, withdrawn-after}
use Rattle.fleet_history.proofs.Arrivals.{arrivals_by-fits, unfinished-after_tick, unfinished-after_take, unfinished-after_shut, kept-filtered}
use Rattle.fleet_planner.specs.Planned.{cell_of}
use Rattle.fleet_bound.specs.Arriving.{IsGone}
use Rattle.fleet_bound.specs.Onward.{onward, tick_count}
use Rattle.fleet_bound.proofs.Fronts.{wait-some}
use Rattle.fleet_bound.proofs.Ticks.{is_landing, landed-one, landed-none}
use Rattle.turns_law.specs.Turns.{Turns}
use Rattle.turns_law.specs.Fleet.{IsFleet, IsPause, IsOnTime}
use Rattle.turns_law.proofs.Steps.{fresh_on_time, tick_on_time, pause_on_time, on_time_bound}
use Rattle.turns_history.specs.Fleets.{TurnLimits, AreTurnsFor, IsEarly, IsEntryInTurns, as_fleet}
use Rattle.turns_history.specs.Kept.{IsServedAfter}
use Rattle.turns_history.specs.Arriving.{AreServedUpTo, GoesOnInTurns, QueuesArrive}
use Rattle.turns_history.proofs.Views.{goal-at}
use Rattle.turns_history.proofs.Ticking.{front-stays, tick-in-turns}
use Rattle.turns_history.proofs.Pausing.{take-in-turns, shut-in-turns}
use Rattle.turns_history.proofs.Keeping.{early-before, fleet-of, served-front}
use Rattle.turns_history.proofs.Places.{HasMovedUp, get-below, get-later, get-earlier, moved-up, moved-on}
use Rattle.turns_history.proofs.Going.{all-entries, began}

-- the errand is gone, or this number of robots' turns of its ticks is over
data IsDue {A : Type 0} (m : Floor) (t : Turns) (l : TurnLimits) (r : ℕ) (x : Errand) (count : ℕ) (now : History A) (ticks : ℕ) : Type 0 where
  gone : IsGone now r x → IsDue m t l r x count now ticks
  due : (k done part : ℕ) → slice_get (unfinished now r) k ≡ Some x → done + (k + 1) ≡ count → AreServedUpTo t now r k → IsOnTime m t l.reach l.depth l.turn (as_fleet now) r part →
      ticks ≤ done * (t.robots * l.turn) + part → IsDue m t l r x count now ticks

gone-after : {A : Type 0} (now : History A) (r : ℕ) (x : Errand) (e : Entry A) → IsGone now r x → IsGone (after now e) r x
gone-after now r x e (inl arrived) = inl (subst (λ xs. Contains xs x) (sym (arrivals-after now r e)) (Contains-append_left (arrivals now r) (arrivals_by r e) x arrived))
gone-after now r x e (inr out) = inr (withdrawn-after now x e ∙ or_left (is_withdrawn now x) (withdraws x e) out)

more_done : (a b done part bound ticks : ℕ) → a ≤ b → ticks ≤ a * bound + part → ticks ≤ b * bound + part
more_done a b done part bound ticks l e = let h : a * bound ≤ b * bound = mul-le-mul_right bound l in omega (arith, h, e)

turn_done : (done part bound ticks : ℕ) → part < bound → ticks ≤ done * bound + part → ticks + 1 ≤ (done + 1) * bound + 0
turn_done done part bound ticks l e = omega (arith, l, e, add-mul done 1 bound)

module _ {A : Type 0} (m : Floor) (t : Turns) (l : TurnLimits) (laws : List TieLaw) (r : ℕ) (x : Errand) (count : ℕ) (now : History A) (ticks : ℕ) (are : AreTurnsFor m t l (robots now)) (legal : IsLegal m now) (known : r < robots now) where
  there : r < t.robots
  there = subst (λ (n : ℕ). r < n) (sym are.robots) known

  -- ---- one more entry

  take-due : (c : ℕ) (order : Order) (v : Verdict) → Fits m now (Take c order v) → IsEarly (after now (Take c order v)) → (k done part : ℕ) → slice_get (unfinished now r) k ≡ Some x → done + (k + 1) ≡ count → AreServedUpTo t now r k →
      IsOnTime m t l.reach l.depth l.turn (as_fleet now) r part → ticks ≤ done * (t.robots * l.turn) + part → IsDue m t l r x count (after now (Take c order v)) ticks
  take-due c order v fits early k done part at share served on enough = elim (cases_Bool (gives_up c order v x)) [
    | inl out ↦ gone (inr (withdrawn-after now x (Take c order v) ∙ or_right (is_withdrawn now x) (gives_up c order v x) out))
    | inr stays ↦ (
        let g = after now (Take c order v) in
        let keeps = λ (y : Errand). not (gives_up c order v y) in
        let new : unfinished g r ≡ filter keeps (unfinished now r) ++ errand_for r c order v
        = unfinished-after_take m now c order v r legal fits.1 known ∙ ap (λ (u : List Errand). u ++ errand_for r c order v) (kept-filtered m now c order v r legal fits.1 known) in
        let up = subst (λ (u : List Errand). HasMovedUp (unfinished now r) u k x) (sym new)
        (moved-on (unfinished now r) (filter keeps (unfinished now r)) (errand_for r c order v) k x (moved-up keeps (unfinished now r) k x at (ap not stays))) in
        let pause = subst (λ (n : ℕ). IsPause n (as_fleet now) (as_fleet g)) (sym are.robots) (take-in-turns m now legal c order v fits.1) in
        let before = fleet-of m t l now are legal (early-before now (Take c order v) early) in
        let behind = fleet-of m t l g are (grown (Take c order v) legal fits refl) early in
        let on' = pause_on_time m t are.turns l.reach l.depth l.turn are.limits (as_fleet now) (as_fleet g) before behind pause r part there on in
        due up.place (done + (k - up.place)) part up.there (omega (arith, up.within, share))
        (λ i y less is. (let was = up.before i y less is in served was.0 y was.1 was.2)) on'
        (more_done done (done + (k - up.place)) done part (t.robots * l.turn) ticks (omega arith) enough))
  ]

  shut-due : (robot : ℕ) (farewell : Option ℕ) → (k done part : ℕ) → slice_get (unfinished now r) k ≡ Some x → done + (k + 1) ≡ count → AreServedUpTo t now r k →
      IsOnTime m t l.reach l.depth l.turn (as_fleet now) r part → ticks ≤ done * (t.robots * l.turn) + part → IsDue m t l r x count (after now (Shut robot farewell)) ticks
  shut-due robot farewell k done part at share served on enough =
      let same = unfinished-after_shut now robot farewell r in
      due k done part (ap (λ u. slice_get u k) same ∙ at) share (λ i y less is. served i y less (sym (ap (λ u. slice_get u i) same) ∙ is))
      (subst (λ f. IsOnTime m t l.reach l.depth l.turn f r part) (sym (shut-in-turns now robot farewell)) on) enough

  module _ (to : List ℕ) (shown : List Arrival) (farewells : List Bye) (fits : Fits m now (Tick to shown farewells)) (early : IsEarly (after now (Tick to shown farewells))) (planned : IsEntryInTurns m t laws now (Tick to shown farewells)) where
    abbrev g : History A
    g = after now (Tick to shown farewells)

    behind : IsFleet m t.robots (as_fleet g)
    behind = fleet-of m t l g are (grown (Tick to shown farewells) legal fits refl) early

    before : IsFleet m t.robots (as_fleet now)
    before = fleet-of m t l now are legal (early-before now (Tick to shown farewells) early)

    rest-is : unfinished g r ≡ drop (length (landed to r (front now r))) (unfinished now r)
    rest-is = unfinished-after_tick now to shown farewells r known fits.shows

    -- the front has arrived, and the others move up
    lands : (f : Errand) → front now r ≡ Some f → slice_index to r ≡ f.cell → (k done part : ℕ) → slice_get (unfinished now r) k ≡ Some x → done + (k + 1) ≡ count → AreServedUpTo t now r k →
        part < t.robots * l.turn → ticks ≤ done * (t.robots * l.turn) + part → IsDue m t l r x count g (ticks + 1)
    lands f is here zero done part at share served short enough =
        let same : f ≡ x = cc in
        let one : landed to r (front now r) ≡ f ∷ [] = ap (landed to r) is ∙ landed-one to r f (eq-eqb f.cell (slice_index to r) (sym here)) in
        let all : arrivals g r ≡ arrivals now r ++ x ∷ [] = arrivals-after now r (Tick to shown farewells)
        ∙ ap (λ (xs : List Errand). arrivals now r ++ xs) (arrivals_by-fits now to shown farewells r known fits.shows ∙ one ∙ ap (λ (y : Errand). y ∷ []) same) in
        gone (inl (subst (λ xs. Contains xs x) (sym all) (Contains-push (arrivals now r) x)))
    lands f is here (suc k) done part at share served short enough =
        let one : landed to r (front now r) ≡ f ∷ [] = ap (landed to r) is ∙ landed-one to r f (eq-eqb f.cell (slice_index to r) (sym here)) in
        let rest : unfinished g r ≡ drop 1 (unfinished now r) = rest-is ∙ ap (λ (xs : List Errand). drop (length xs) (unfinished now r)) one in
        let at' : slice_get (unfinished g r) k ≡ Some x = ap (λ u. slice_get u k) rest ∙ get-later (unfinished now r) k x at in
        let next = get-below (unfinished g r) 0 k x (omega arith) at' in
        let was : slice_get (unfinished now r) 1 ≡ Some next.0 = get-earlier (unfinished now r) 0 next.0 (sym (ap (λ u. slice_get u 0) rest) ∙ next.1) in
        let ok : IsServedAfter t now next.0.cell = served 1 next.0 (omega arith) was in
        let waited = wait-some g r next.0 next.1 in
        let fresh = fresh_on_time m t are.turns l.reach l.depth l.turn are.limits (as_fleet g) behind r waited.0 there (served-front m t l g r waited.0 next.0 are known next.1 ok waited.1) in
        due k (done + 1) 0 at' (omega (arith, share))
        (λ i y less it. served (suc i) y (omega (arith, less)) (get-earlier (unfinished now r) i y (sym (ap (λ u. slice_get u i) rest) ∙ it))) fresh
        (turn_done done part (t.robots * l.turn) ticks short enough)

    lands-not : (f : Errand) → front now r ≡ Some f → slice_index to r ≢ f.cell → (k done part : ℕ) → slice_get (unfinished now r) k ≡ Some x → done + (k + 1) ≡ count → AreServedUpTo t now r k →
        IsOnTime m t l.reach l.depth l.turn (as_fleet now) r part → ticks ≤ done * (t.robots * l.turn) + part → IsDue m t l r x count g (ticks + 1)
    lands-not f is off k done part at share served on enough =
        let away : is_landing to r (front now r) ≡ false = ap (is_landing to r) is ∙ ne_eqb f.cell (slice_index to r) (λ e. off (sym e)) in
        let same : unfinished g r ≡ unfinished now r = rest-is ∙ ap (λ (xs : List Errand). drop (length xs) (unfinished now r)) (landed-none to r (front now r) away) in
        let elsewhere : slice_index (place g) r ≢ f.cell = λ e. off (ap (λ (p : List ℕ). slice_index p r) (sym (place-after now (Tick to shown farewells))) ∙ e) in
        let on' = tick_on_time m t are.turns l.reach l.depth l.turn are.limits laws (as_fleet now) (as_fleet g) before behind (tick-in-turns m now to shown farewells legal fits t laws planned) r part f.cell there
        (goal-at now r known ∙ ap cell_of is) elsewhere on in
        due k done (part + 1) (ap (λ u. slice_get u k) same ∙ at) share (λ i y less it. served i y less (sym (ap (λ u. slice_get u i) same) ∙ it)) on' (omega (arith, enough))

    tick-due : (k done part : ℕ) → slice_get (unfinished now r) k ≡ Some x → done + (k + 1) ≡ count → AreServedUpTo t now r k →
        IsOnTime m t l.reach l.depth l.turn (as_fleet now) r part → ticks ≤ done * (t.robots * l.turn) + part → IsDue m t l r x count g (ticks + 1)
    tick-due k done part at share served on enough =
        let f = get-below (unfinished now r) 0 k x (omega arith) at in
        elim (cases_eq (slice_index to r) f.0.cell) [
          | inl here ↦ lands f.0 f.1 here k done part at share served (on_time_bound m t are.turns l.reach l.depth l.turn are.limits (as_fleet now) before r part there on) enough
          | inr off ↦ lands-not f.0 f.1 off k done part at share served on enough
        ]

  entry-due : (e : Entry A) → Fits m now e → IsEarly (after now e) → IsEntryInTurns m t laws now e → IsDue m t l r x count now ticks → IsDue m t l r x count (after now e) (ticks + cond (is_tick e) 1 0)
  entry-due e fits early planned (gone is) = gone (gone-after now r x e is)
  entry-due (Take c order v) fits early planned (due k done part at share served on enough) =
      let same : ticks ≡ ticks + 0 = omega arith in
      subst (λ (n : ℕ). IsDue m t l r x count (after now (Take c order v)) n) same (take-due c order v fits early k done part at share served on enough)
  entry-due (Shut robot farewell) fits early planned (due k done part at share served on enough) =
      let same : ticks ≡ ticks + 0 = omega arith in
      subst (λ (n : ℕ). IsDue m t l r x count (after now (Shut robot farewell)) n) same (shut-due robot farewell k done part at share served on enough)
  entry-due (Tick to shown farewells) fits early planned (due k done part at share served on enough) = tick-due to shown farewells fits early planned k done part at share served on enough

-- ---- all entries of a continuation

module _ {A : Type 0} (m : Floor) (t : Turns) (l : TurnLimits) (laws : List TieLaw) (h : History A) (are : AreTurnsFor m t l (robots h)) where
  over : (r j : ℕ) (x : Errand) (now : History A) (ticks : ℕ) → r < robots h → IsFleet m t.robots (as_fleet now) → (j + 1) * (robots h * l.turn) ≤ ticks → IsDue m t l r x (j + 1) now ticks → IsGone now r x
  over r j x now ticks known fleet enough (gone is) = is
  over r j x now ticks known fleet enough (due k done part at share served on few) =
      let there : r < t.robots = subst (λ (n : ℕ). r < n) (sym are.robots) known in
      let short = on_time_bound m t are.turns l.reach l.depth l.turn are.limits (as_fleet now) fleet r part there on in
      let full : (j + 1) * (t.robots * l.turn) ≤ ticks = subst (λ (n : ℕ). (j + 1) * (n * l.turn) ≤ ticks) (sym are.robots) enough in
      let part_of : (done + 1) * (t.robots * l.turn) ≤ (j + 1) * (t.robots * l.turn) = mul-le-mul_right (t.robots * l.turn) (omega (arith, share)) in
      absurd (omega (arith, short, full, part_of, few, add-mul done 1 (t.robots * l.turn)))

  pub queues-arrive : QueuesArrive m t laws (robots h * l.turn) h
  queues-arrive r j x more known at served goes enough =
      let start_at = began m t l laws h are more goes in
      let f = get-below (unfinished h r) 0 j x (omega arith) at in
      let waited = wait-some h r f.0 f.1 in
      let there : r < t.robots = subst (λ (n : ℕ). r < n) (sym are.robots) known in
      let fleet = fleet-of m t l h are start_at.0 start_at.1 in
      let fresh = fresh_on_time m t are.turns l.reach l.depth l.turn are.limits (as_fleet h) fleet r waited.0 there (served-front m t l h r waited.0 f.0 are known f.1 (served 0 f.0 (omega arith) f.1) waited.1) in
      let last = all-entries m t l laws h (λ ticks now. IsDue m t l r x (j + 1) now ticks)
      (λ now ticks e same legal fits early planned it.
      entry-due m t l laws r x (j + 1) now ticks (subst (λ (n : ℕ). AreTurnsFor m t l n) (sym same) are) legal (subst (λ (n : ℕ). r < n) (sym same) known) e fits early planned it)
      more goes (due j 0 0 at (omega arith) served fresh (omega arith)) in
      over r j x (onward h more) (tick_count more) known (fleet-of m t l (onward h more) are goes.legal goes.early) enough last
