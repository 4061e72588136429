-- The bound is kept: it begins with an opening, and each entry that fits and each next opening keeps it.
use Rattle.std.proofs.Common.{◌≡◌, ℕ, ◌<◌, List, [], ◌∷◌, ◌++◌, Option, Some, sym, refl, ap, subst, ◌∙◌}
use Rattle.std.proofs.lemmas.List.{append_assoc}
use Rattle.std.specs.Prelude.{slice_index}
use Rattle.fleet_grid.specs.Floor.{Floor, IsFloor}
use Rattle.fleet_book.specs.declared.order.Order.{Order}
use Rattle.fleet_book.specs.declared.verdict.Verdict.{Verdict}
use Rattle.fleet_history.specs.declared.history.Arrival.{Arrival}
use Rattle.fleet_history.specs.declared.history.Bye.{Bye}
use Rattle.fleet_history.specs.declared.history.Entry.{Entry}
use Rattle.fleet_history.specs.declared.history.Entry.TheVariants.{Take, Tick, Shut}
use Rattle.fleet_history.specs.declared.history.Opening.{Opening}
use Rattle.fleet_history.specs.History.{History, start, robots, after, errands_at}
use Rattle.fleet_history.specs.Laws.{EachTick}
use Rattle.fleet_history.specs.Legal.{IsLegal, opened, grown, IsInOrder, Fits, IsTickAfter, IsShutAfter}
use Rattle.fleet_history.specs.Next.{next_opening}
use Rattle.fleet_history.specs.Waits.{wait}
use Rattle.fleet_history.proofs.Next.{next-robots, start-place}
use Rattle.fleet_history.proofs.Withdrawals.{unfinished-start}
use Rattle.fleet_planner.specs.Planned.{IsAdvancingTick}
use Rattle.fleet_bound.specs.Waiting.{IsPause, IsBounded}
use Rattle.fleet_bound.proofs.WaitBounds.{bounded-tick, bounded-pause, bounded-short, bounded-idle}
use Rattle.fleet_bound.specs.Reach.{reach}
use Rattle.fleet_bound.specs.Bound.{KeepsBound, WaitsAreBounded}
use Rattle.fleet_bound.specs.Onward.{onward, GoesOn}
use Rattle.fleet_bound.proofs.Fronts.{front-waits}
use Rattle.fleet_bound.proofs.Moments.{moment, within-moment, on_floor, StandsOnFloor, keeps-bounded, bounded-keeps}
use Rattle.fleet_bound.proofs.Ticks.{lands, tick-advances}
use Rattle.fleet_bound.proofs.Pauses.{take-pause, shut-pause, next-pause}
use Rattle.fleet_bound.proofs.Runs.{IsAdvancingEntry, Run, stands, went, goes-run}

pub bound-short : {A : Type 0} (m : Floor) (h : History A) → IsLegal m h → KeepsBound m h → WaitsAreBounded m h
bound-short m h legal keeps r w known waits = bounded-short (robots h) (reach m) r w (moment m h) (keeps-bounded m h legal keeps) known waits

pub bound-begins : {A : Type 0} (m : Floor) (o : Opening A) → IsInOrder m o → ((r w : ℕ) → r < robots (start o) → wait (start o) r ≡ Some w → w ≡ 0) → KeepsBound m (start o)
bound-begins m o order idle = bounded-keeps m (start o) (on_floor m (start o) (opened order)) (bounded-idle (robots (start o)) (reach m) (moment m (start o)) idle (within-moment m (start o) (robots (start o))))

-- a first opening has no errands, so nobody waits
pub bound-empty : {A : Type 0} (m : Floor) (o : Opening A) → IsInOrder m o → ((r : ℕ) → r < robots (start o) → errands_at o r ≡ []) → KeepsBound m (start o)
bound-empty m o order empty = bound-begins m o order (λ r w known waits. (
    let found = front-waits (start o) r w waits in
    let none = unfinished-start o r ∙ empty r known in
    absurd (cc (found.1, none))))

-- a pause between histories with as many robots
paused : {A : Type 0} (m : Floor) (h g : History A) → IsLegal m h → StandsOnFloor m g → robots g ≡ robots h → IsPause (robots h) (moment m h) (moment m g) → KeepsBound m h → KeepsBound m g
paused m h g legal floor same pause keeps = bounded-keeps m g floor
    (subst (λ n. IsBounded n (reach m) (moment m g)) (sym same)
    (bounded-pause (robots h) (reach m) (moment m h) (moment m g) (within-moment m g (robots h)) pause (keeps-bounded m h legal keeps)))

module _ {A : Type 0} (m : Floor) (h : History A) (legal : IsLegal m h) where
  pub bound-take : (c : ℕ) (order : Order) (v : Verdict) → Fits m h (Take c order v) → KeepsBound m h → KeepsBound m (after h (Take c order v))
  bound-take c order v fits = paused m h (after h (Take c order v)) legal (on_floor m (after h (Take c order v)) (grown (Take c order v) legal fits refl)) refl (take-pause m h c order v legal fits.1)

  pub bound-shut : (robot : ℕ) (farewell : Option ℕ) → IsShutAfter h robot farewell → KeepsBound m h → KeepsBound m (after h (Shut robot farewell))
  bound-shut robot farewell fits = paused m h (after h (Shut robot farewell)) legal (on_floor m (after h (Shut robot farewell)) (grown (Shut robot farewell) legal fits refl)) refl (shut-pause m h robot farewell)

  pub bound-tick : (to : List ℕ) (arrived : List Arrival) (farewells : List Bye) → IsTickAfter m h to arrived farewells → IsAdvancingTick m h to →
      KeepsBound m h → KeepsBound m (after h (Tick to arrived farewells))
  bound-tick to arrived farewells fits advancing keeps =
      let g : History A = after h (Tick to arrived farewells) in
      bounded-keeps m g (on_floor m g (grown (Tick to arrived farewells) legal fits refl))
      (bounded-tick (robots h) (reach m) (moment m h) (moment m g) (lands h to) (within-moment m g (robots h)) (tick-advances m h to arrived farewells legal fits advancing) (keeps-bounded m h legal keeps))

  -- the next chapter begins within the bound
  pub bound-next : KeepsBound m h → KeepsBound m (start (next_opening h))
  bound-next = paused m h (start (next_opening h)) legal next_floor (next-robots h) (next-pause m h legal)
    where
      next_floor : StandsOnFloor m (start (next_opening h))
      next_floor r known = subst (λ (p : List ℕ). IsFloor m (slice_index p r)) (sym (start-place h m legal)) (on_floor m h legal r (subst (λ (n : ℕ). r < n) (next-robots h) known))

-- ---- whole histories

-- what holds of each tick held before the last entry
each_tick-before : {A : Type 0} (P : History A → List ℕ → Type 0) (h : History A) (e : Entry A) → EachTick P (after h e) → EachTick P h
each_tick-before P h e all before behind to arrived farewells q =
    all before (behind ++ e ∷ []) to arrived farewells (ap (λ es. es ++ e ∷ []) q ∙ append_assoc before (Tick to arrived farewells ∷ behind) (e ∷ []))

-- the last entry advances too
last-advancing : {A : Type 0} (m : Floor) (h : History A) (e : Entry A) → EachTick (IsAdvancingTick m) (after h e) → IsAdvancingEntry m h e
last-advancing m h (Take client order verdict) all = refl
last-advancing m h (Tick to arrived farewells) all = all h.entries [] to arrived farewells refl
last-advancing m h (Shut robot farewell) all = refl

module _ {A : Type 0} (m : Floor) where
  bound-entry : (h : History A) (e : Entry A) → IsLegal m h → Fits m h e → IsAdvancingEntry m h e → KeepsBound m h → KeepsBound m (after h e)
  bound-entry h (Take c order v) legal fits advancing = bound-take m h legal c order v fits
  bound-entry h (Tick to arrived farewells) legal fits advancing = bound-tick m h legal to arrived farewells fits advancing
  bound-entry h (Shut robot farewell) legal fits advancing = bound-shut m h legal robot farewell fits

  -- a legal history keeps the bound of its opening, if each tick is advancing
  pub bound-legal : (h : History A) → IsLegal m h → EachTick (IsAdvancingTick m) h → KeepsBound m (start h.opening) → KeepsBound m h
  bound-legal h (opened order) advancing begins = begins
  bound-legal g (grown {h} e legal fits same) advancing begins =
      let all = subst (λ k. EachTick (IsAdvancingTick m) k) same advancing in
      let before = bound-legal h legal (each_tick-before (IsAdvancingTick m) h e all) (subst (λ (k : History A). KeepsBound m (start k.opening)) same begins) in
      subst (λ k. KeepsBound m k) (sym same) (bound-entry h e legal fits (last-advancing m h e all) before)

  pub bounded-legal : (h : History A) → IsLegal m h → EachTick (IsAdvancingTick m) h → KeepsBound m (start h.opening) → WaitsAreBounded m h
  bounded-legal h legal advancing begins = bound-short m h legal (bound-legal h legal advancing begins)

  run-keeps : {P : Entry A → Type 0} {from h : History A} {t : ℕ} → KeepsBound m from → Run m P from h t → KeepsBound m h
  run-keeps keeps stands = keeps
  run-keeps keeps (went {h} g more e run legal fits advancing here same count) = subst (λ k. KeepsBound m k) (sym same) (bound-entry h e legal fits advancing (run-keeps keeps run))

  -- so does each continuation
  pub bound-onward : (h : History A) (more : List (Entry A)) → GoesOn m h more → KeepsBound m h → KeepsBound m (onward h more)
  bound-onward h more goes keeps = run-keeps keeps (goes-run m h (λ (e : Entry A). e ≡ e) more goes (λ k d l. refl))
