-- A fleet that gets no more errands gets idle.
use Rattle.std.proofs.Common.{◌≡◌, ℕ, ◌+◌, ◌-◌, ◌*◌, ◌<◌, ◌≤◌, inl, inr, List, [], ◌∷◌, length, drop, cond, true, false, Some, None, sym, refl, ap, ◌∙◌, subst, arith}
use Rattle.std.specs.Prelude.{slice_get}
use Rattle.std.proofs.Math.Nat.{mul-le-mul_left}
use Rattle.fleet_grid.specs.Floor.{Floor}
use Rattle.fleet_grid.specs.Counts.{floor_count}
use Rattle.fleet_grid.proofs.Least.{none_or_some}
use Rattle.fleet_queue.specs.declared.errand.Errand.{Errand}
use Rattle.fleet_history.specs.declared.history.Arrival.{Arrival}
use Rattle.fleet_history.specs.declared.history.Bye.{Bye}
use Rattle.fleet_history.specs.declared.history.Entry.{Entry}
use Rattle.fleet_history.specs.declared.history.Entry.TheVariants.{Take, Tick, Shut}
use Rattle.fleet_history.specs.History.{History, after, is_tick, robots, front, unfinished}
use Rattle.fleet_history.specs.inside.Landing.{landed}
use Rattle.fleet_history.specs.Legal.{IsLegal, Fits, IsTickAfter}
use Rattle.fleet_history.proofs.Arrivals.{unfinished-after_tick, unfinished-after_shut}
use Rattle.fleet_bound.specs.Waiting.{IsAdvance, IsPause}
use Rattle.fleet_bound.specs.Errands.{IsQueued, Follows, begins, ticked, paused}
use Rattle.fleet_bound.proofs.WaitRuns.{fleet-idle}
use Rattle.fleet_bound.specs.Reach.{reach}
use Rattle.fleet_bound.specs.Arriving.{IsIdleWithin}
use Rattle.fleet_bound.specs.Onward.{onward, tick_count, is_take}
use Rattle.fleet_bound.specs.Idle.{longest_after, idle_ticks}
use Rattle.fleet_bound.proofs.Longest.{longest-item}
use Rattle.fleet_bound.proofs.Levels.{reach-few}
use Rattle.fleet_bound.proofs.Fronts.{wait-some}
use Rattle.fleet_bound.proofs.Moments.{moment, within-moment}
use Rattle.fleet_bound.proofs.Ticks.{is_landing, lands, landed-none, landed-one, tick-advances}
use Rattle.fleet_bound.proofs.Pauses.{shut-pause}
use Rattle.fleet_bound.proofs.Runs.{IsAdvancingEntry, Run, stands, went, run-robots, goes-run}

-- ---- lists

some-first : {X : Type 0} (xs : List X) → 0 < length xs → (x : X) × (slice_get xs 0 ≡ Some x)
some-first [] l = absurd (omega arith)
some-first (x ∷ xs) l = (x, refl)

none-first : {X : Type 0} (xs : List X) → length xs ≡ 0 → slice_get xs 0 ≡ None
none-first [] l = refl
none-first (x ∷ xs) l = absurd (omega arith)

one-less : {X : Type 0} (xs : List X) → length (drop 1 xs) ≤ length xs - 1
one-less [] = omega arith
one-less (x ∷ xs) = omega arith

-- ---- a robot's whole queue

module _ {A : Type 0} (m : Floor) (h : History A) (r : ℕ) where
  all-queued : (n : ℕ) → r < n → IsQueued n (reach m) r (moment m h) (length (unfinished h r))
  all-queued n known = record {
    known = known;
    within = within-moment m h n;
    fronted = λ some. (let f = some-first (unfinished h r) some in wait-some h r f.0 f.1);
  }

  module _ (to : List ℕ) (arrived : List Arrival) (farewells : List Bye) (fits : IsTickAfter m h to arrived farewells) (known : r < robots h) where
    rest-is : unfinished (after h (Tick to arrived farewells)) r ≡ drop (length (landed to r (front h r))) (unfinished h r)
    rest-is = unfinished-after_tick h to arrived farewells r known fits.shows

    fewer : lands h to r ≡ true → length (unfinished (after h (Tick to arrived farewells)) r) ≤ length (unfinished h r) - 1
    fewer here = elim (none_or_some (front h r)) [
      | inl none ↦ absurd (let off : lands h to r ≡ false = ap (is_landing to r) none in cc (here, off))
      | inr some ↦ (
          let one : landed to r (front h r) ≡ some.0 ∷ [] = ap (landed to r) some.1 ∙ landed-one to r some.0 (sym (ap (is_landing to r) some.1) ∙ here) in
          let rest : unfinished (after h (Tick to arrived farewells)) r ≡ drop 1 (unfinished h r) = rest-is ∙ ap (λ (l : List Errand). drop (length l) (unfinished h r)) one in
          omega (arith, ap length rest, one-less (unfinished h r)))
    ]

    as-many : lands h to r ≡ false → length (unfinished (after h (Tick to arrived farewells)) r) ≤ length (unfinished h r)
    as-many away =
        let rest : unfinished (after h (Tick to arrived farewells)) r ≡ unfinished h r = rest-is ∙ ap (λ (l : List Errand). drop (length l) (unfinished h r)) (landed-none to r (front h r) away) in
        omega (arith, ap length rest)

module _ {A : Type 0} (m : Floor) (from : History A) (r : ℕ) (known : r < robots from) where
  -- the run, seen from the robot's queue
  IsFollowed : History A → ℕ → Type 0
  IsFollowed h ticks = Follows (robots from) (reach m) r (moment m from) (length (unfinished from r)) (moment m h) (length (unfinished h r)) ticks

  followed-entry : (h : History A) (ticks : ℕ) (e : Entry A) → robots h ≡ robots from → IsLegal m h → Fits m h e → IsAdvancingEntry m h e → is_take e ≡ false → IsFollowed h ticks → IsFollowed (after h e) (ticks + cond (is_tick e) 1 0)
  unfolding IsFollowed
  followed-entry h ticks (Take c order v) same legal fits advancing none run = cc
  followed-entry h ticks (Tick to arrived farewells) same legal fits advancing none run =
      let g : History A = after h (Tick to arrived farewells) in
      let inside : r < robots h = subst (λ (n : ℕ). r < n) (sym same) known in
      let advance = subst (λ n. IsAdvance n (moment m h) (moment m g) (lands h to)) same (tick-advances m h to arrived farewells legal fits advancing) in
      ticked (moment m g) (length (unfinished g r)) (ticks + 1) (lands h to) run advance (fewer m h r to arrived farewells fits inside) (as-many m h r to arrived farewells fits inside) (all-queued m g r (robots from) known) refl
  followed-entry h ticks (Shut robot farewell) same legal fits advancing none run =
      let g : History A = after h (Shut robot farewell) in
      let pause = subst (λ n. IsPause n (moment m h) (moment m g)) same (shut-pause m h robot farewell) in
      let stays : length (unfinished g r) ≤ length (unfinished h r) = omega (arith, ap length (unfinished-after_shut h robot farewell r)) in
      subst (λ (n : ℕ). Follows (robots from) (reach m) r (moment m from) (length (unfinished from r)) (moment m g) (length (unfinished g r)) n) (let e : ticks ≡ ticks + 0 = omega arith in e)
      (paused (moment m g) (length (unfinished g r)) run pause stays (all-queued m g r (robots from) known))

  pub run-followed : {h : History A} {t : ℕ} → Run m (λ (e : Entry A). is_take e ≡ false) from h t →
      Follows (robots from) (reach m) r (moment m from) (length (unfinished from r)) (moment m h) (length (unfinished h r)) t
  unfolding IsFollowed
  run-followed stands = begins (all-queued m from r (robots from) known)
  run-followed (went {h} {ticks} g more e run legal fits advancing none same is) =
      subst (λ (n : ℕ). IsFollowed g n) (sym is) (subst (λ (k : History A). IsFollowed k (ticks + cond (is_tick e) 1 0)) (sym same)
      (followed-entry h ticks e (run-robots run) legal fits advancing none (run-followed run)))

-- after this many advancing ticks nobody has a front
pub fleet-idles : {A : Type 0} (m : Floor) (h : History A) → IsIdleWithin m h (idle_ticks (longest_after h) (robots h) (floor_count m))
fleet-idles {A = A} m h r more known goes nothing enough =
    let run = goes-run m h (λ (e : Entry A). is_take e ≡ false) more goes nothing in
    let turns : longest_after h * robots h * reach m ≤ tick_count more = omega (arith, enough, mul-le-mul_left (longest_after h * robots h) (reach-few m)) in
    none-first (unfinished (onward h more) r)
    (fleet-idle (robots h) (reach m) (longest_after h) (tick_count more) (moment m h) (moment m (onward h more)) (λ q. length (unfinished h q)) (λ q. length (unfinished (onward h more) q))
    (λ q l. run-followed m h q l run) (λ q l. longest-item h q l) turns r known)
