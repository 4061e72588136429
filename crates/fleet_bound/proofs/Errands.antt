-- An errand over a continuation: its place in the queue falls with each arrival and withdrawal before it.
use Rattle.std.proofs.Common.{◌≡◌, ℕ, zero, suc, ◌+◌, ◌-◌, ◌*◌, ◌<◌, ◌≤◌, inl, inr, List, [], ◌∷◌, ◌++◌, length, drop, cond, eqb, Bool, true, false, Option, Some, sym, refl, ap, ◌∙◌, subst, arith}
use Rattle.std.specs.Prelude.{slice_get, filter, not, Contains}
use Rattle.std.proofs.lemmas.Bool.{cases_Bool, eq-eqb, or_left, or_right}
use Rattle.std.proofs.lemmas.List.Elements.{Contains-append_left, Contains-push}
use Rattle.fleet_grid.specs.Floor.{Floor}
use Rattle.fleet_queue.specs.declared.errand.Errand.{Errand}
use Rattle.fleet_book.specs.declared.order.Order.{Order}
use Rattle.fleet_book.specs.declared.order.Order.TheVariants.{Go, Close, Withdraw}
use Rattle.fleet_book.specs.declared.verdict.Verdict.{Verdict}
use Rattle.fleet_book.specs.declared.verdict.Verdict.TheVariants.{Accepted}
use Rattle.fleet_history.specs.declared.history.Arrival.{Arrival}
use Rattle.fleet_history.specs.declared.history.Bye.{Bye}
use Rattle.fleet_history.specs.declared.history.Entry.{Entry}
use Rattle.fleet_history.specs.declared.history.Entry.TheVariants.{Take, Tick, Shut}
use Rattle.fleet_history.specs.History.{History, after, is_tick, robots, front, unfinished, arrivals, arrivals_by, gives_up, withdraws, is_withdrawn, errand_for}
use Rattle.fleet_history.specs.inside.Landing.{landed}
use Rattle.fleet_history.specs.Legal.{IsLegal, Fits, IsTickAfter}
use Rattle.fleet_history.specs.Verdicts.{IsVerdict}
use Rattle.fleet_history.proofs.After.{arrivals-after, withdrawn-after}
use Rattle.fleet_history.proofs.Arrivals.{arrivals_by-fits, unfinished-after_tick, unfinished-after_shut, unfinished-after_take, kept-filtered}
use Rattle.fleet_history.proofs.Legal.{accepted-robot}
use Rattle.fleet_history.proofs.Numbers.{slice_get_front}
use Rattle.fleet_bound.specs.Waiting.{IsAdvance, IsPause}
use Rattle.fleet_bound.specs.Errands.{IsQueued, Follows, begins, ticked, paused}
use Rattle.fleet_bound.proofs.WaitRuns.{errands-arrive}
use Rattle.fleet_bound.specs.Reach.{reach}
use Rattle.fleet_bound.specs.Arriving.{IsGone, ErrandsArrive, ArrivesInTurn}
use Rattle.fleet_bound.proofs.Fronts.{wait-some}
use Rattle.fleet_bound.proofs.Moments.{moment, within-moment}
use Rattle.fleet_bound.proofs.Ticks.{is_landing, lands, landed-none, landed-one, tick-advances}
use Rattle.fleet_bound.proofs.Pauses.{take-pause, shut-pause}
use Rattle.fleet_bound.proofs.Runs.{IsAdvancingEntry, Run, stands, went, run-robots, goes-run}

-- of a robot's errands up to this one this many are left
data IsLeft {A : Type 0} (h : History A) (r : ℕ) (x : Errand) (left : ℕ) : Type 0 where
  gone : IsGone h r x → left ≡ 0 → IsLeft h r x left
  queued : (k : ℕ) → slice_get (unfinished h r) k ≡ Some x → left ≡ k + 1 → IsLeft h r x left

-- ---- lists

get-some : {X : Type 0} (xs : List X) (k : ℕ) (x : X) → slice_get xs k ≡ Some x → (y : X) × (slice_get xs 0 ≡ Some y)
get-some [] k x e = cc
get-some (y ∷ xs) k x e = (y, refl)

get-later : {X : Type 0} (xs : List X) (k : ℕ) (x : X) → slice_get xs (suc k) ≡ Some x → slice_get (drop 1 xs) k ≡ Some x
get-later [] k x e = cc
get-later (y ∷ xs) k x e = e

-- what a filter keeps comes no further back
get-filter : {X : Type 0} (q : X → Bool) (xs : List X) (k : ℕ) (x : X) → slice_get xs k ≡ Some x → q x ≡ true → (j : ℕ) × (j ≤ k) × (slice_get (filter q xs) j ≡ Some x)
get-filter q [] k x e keeps = cc
get-filter q (y ∷ xs) zero x e keeps =
    let same : y ≡ x = cc in
    let here : q y ≡ true = ap q same ∙ keeps in
    (0, omega arith, rw here e)
get-filter q (y ∷ xs) (suc k) x e keeps =
    let rest = get-filter q xs k x e keeps in
    elim (cases_Bool (q y)) [
      | inl here ↦ (suc rest.0, omega (arith, rest.1), rw here rest.2)
      | inr out ↦ (rest.0, omega (arith, rest.1), rw out rest.2)
    ]

-- ---- one more entry

module _ {A : Type 0} (m : Floor) (h : History A) (r : ℕ) (x : Errand) where
  gone-after : (e : Entry A) → IsGone h r x → IsGone (after h e) r x
  gone-after e (inl arrived) = inl (subst (λ xs. Contains xs x) (sym (arrivals-after h r e)) (Contains-append_left (arrivals h r) (arrivals_by r e) x arrived))
  gone-after e (inr out) = inr (withdrawn-after h x e ∙ or_left (is_withdrawn h x) (withdraws x e) out)

  left-queued : (n left : ℕ) → r < n → IsLeft h r x left → IsQueued n (reach m) r (moment m h) left
  left-queued n left known (gone is none) = record { known = known; within = within-moment m h n; fronted = λ some. absurd (omega (arith, none)) }
  left-queued n left known (queued k at is) = record { known = known; within = within-moment m h n; fronted = λ some. (let f = get-some (unfinished h r) k x at in wait-some h r f.0 f.1) }

  module _ (to : List ℕ) (arrived : List Arrival) (farewells : List Bye) (fits : IsTickAfter m h to arrived farewells) (known : r < robots h) where
    shown : arrivals (after h (Tick to arrived farewells)) r ≡ arrivals h r ++ landed to r (front h r)
    shown = arrivals-after h r (Tick to arrived farewells) ∙ ap (λ (l : List Errand). arrivals h r ++ l) (arrivals_by-fits h to arrived farewells r known fits.shows)

    rest-is : unfinished (after h (Tick to arrived farewells)) r ≡ drop (length (landed to r (front h r))) (unfinished h r)
    rest-is = unfinished-after_tick h to arrived farewells r known fits.shows

    -- where the robot lands, its front is done, and the others move up
    lands-here : (k : ℕ) → slice_get (unfinished h r) k ≡ Some x → lands h to r ≡ true → IsLeft (after h (Tick to arrived farewells)) r x k
    lands-here k at here =
        let f = get-some (unfinished h r) k x at in
        let one : landed to r (front h r) ≡ f.0 ∷ [] = ap (landed to r) f.1 ∙ landed-one to r f.0 (sym (ap (is_landing to r) f.1) ∙ here) in
        place k at f.0 f.1 one
      where
        place : (k : ℕ) → slice_get (unfinished h r) k ≡ Some x → (f : Errand) → front h r ≡ Some f → landed to r (front h r) ≡ f ∷ [] → IsLeft (after h (Tick to arrived farewells)) r x k
        place zero at f is one =
            let same : f ≡ x = cc in
            let all : arrivals (after h (Tick to arrived farewells)) r ≡ arrivals h r ++ x ∷ [] = shown ∙ ap (λ (l : List Errand). arrivals h r ++ l) one ∙ ap (λ (y : Errand). arrivals h r ++ y ∷ []) same in
            gone (inl (subst (λ xs. Contains xs x) (sym all) (Contains-push (arrivals h r) x))) refl
        place (suc k) at f is one =
            let rest : unfinished (after h (Tick to arrived farewells)) r ≡ drop 1 (unfinished h r) = rest-is ∙ ap (λ (l : List Errand). drop (length l) (unfinished h r)) one in
            queued k (ap (λ u. slice_get u k) rest ∙ get-later (unfinished h r) k x at) (omega arith)

    lands-not : (k : ℕ) → slice_get (unfinished h r) k ≡ Some x → lands h to r ≡ false → slice_get (unfinished (after h (Tick to arrived farewells)) r) k ≡ Some x
    lands-not k at away =
        let same : unfinished (after h (Tick to arrived farewells)) r ≡ unfinished h r = rest-is ∙ ap (λ (l : List Errand). drop (length l) (unfinished h r)) (landed-none to r (front h r) away) in
        ap (λ u. slice_get u k) same ∙ at

    left-tick : (left : ℕ) → IsLeft h r x left → (few : ℕ) × IsLeft (after h (Tick to arrived farewells)) r x few × (lands h to r ≡ true → few ≤ left - 1) × (lands h to r ≡ false → few ≤ left)
    left-tick left (gone is none) = (0, gone (gone-after (Tick to arrived farewells) is) refl, (λ here. omega arith), (λ away. omega arith))
    left-tick left (queued k at is) = elim (cases_Bool (lands h to r)) [
      | inl here ↦ (k, lands-here k at here, (λ t. omega (arith, is)), (λ t. omega (arith, is)))
      | inr away ↦ (left, queued k (lands-not k at away) is, (λ t. absurd (cc (t, away))), (λ t. omega arith))
    ]

  left-take : (c : ℕ) (order : Order) (v : Verdict) → IsLegal m h → IsVerdict m h c order v → r < robots h → (left : ℕ) → IsLeft h r x left → (few : ℕ) × IsLeft (after h (Take c order v)) r x few × (few ≤ left)
  left-take c order v legal is known left (gone done none) = (0, gone (gone-after (Take c order v) done) refl, omega arith)
  left-take c order v legal is known left (queued k at count) = elim (cases_Bool (gives_up c order v x)) [
    | inl out ↦ (0, gone (inr (withdrawn-after h x (Take c order v) ∙ or_right (is_withdrawn h x) (gives_up c order v x) out)) refl, omega arith)
    | inr kept ↦ (
        let there = get-filter (λ y. not (gives_up c order v y)) (unfinished h r) k x at (ap not kept) in
        let new : unfinished (after h (Take c order v)) r ≡ filter (λ y. not (gives_up c order v y)) (unfinished h r) ++ errand_for r c order v
        = unfinished-after_take m h c order v r legal is known ∙ ap (λ (u : List Errand). u ++ errand_for r c order v) (kept-filtered m h c order v r legal is known) in
        (there.0 + 1, queued there.0 (ap (λ u. slice_get u there.0) new ∙ slice_get_front (filter (λ y. not (gives_up c order v y)) (unfinished h r)) (errand_for r c order v) x there.0 there.2) refl, omega (arith, count, there.1)))
  ]

  left-shut : (robot : ℕ) (farewell : Option ℕ) (left : ℕ) → IsLeft h r x left → IsLeft (after h (Shut robot farewell)) r x left
  left-shut robot farewell left (gone is none) = gone (gone-after (Shut robot farewell) is) none
  left-shut robot farewell left (queued k at is) = queued k (ap (λ u. slice_get u k) (unfinished-after_shut h robot farewell r) ∙ at) is

-- ---- a run

module _ {A : Type 0} (m : Floor) (from : History A) (r : ℕ) (x : Errand) (known : r < robots from) (count : ℕ) where
  IsFollowed : History A → ℕ → Type 0
  IsFollowed h ticks = (left : ℕ) × IsLeft h r x left × Follows (robots from) (reach m) r (moment m from) count (moment m h) left ticks

  followed-entry : (h : History A) (ticks : ℕ) (e : Entry A) → robots h ≡ robots from → IsLegal m h → Fits m h e → IsAdvancingEntry m h e → IsFollowed h ticks → IsFollowed (after h e) (ticks + cond (is_tick e) 1 0)
  unfolding IsFollowed
  followed-entry h ticks (Take c order v) same legal fits advancing found =
      let next = left-take m h r x c order v legal fits.1 (subst (λ (n : ℕ). r < n) (sym same) known) found.0 found.1 in
      let pause = subst (λ n. IsPause n (moment m h) (moment m (after h (Take c order v)))) same (take-pause m h c order v legal fits.1) in (
        next.0,
        next.1,
        subst (λ (n : ℕ). Follows (robots from) (reach m) r (moment m from) count (moment m (after h (Take c order v))) next.0 n) (let e : ticks ≡ ticks + 0 = omega arith in e)
            (paused (moment m (after h (Take c order v))) next.0 found.2 pause next.2 (left-queued m (after h (Take c order v)) r x (robots from) next.0 known next.1)),
      )
  followed-entry h ticks (Tick to arrived farewells) same legal fits advancing found =
      let next = left-tick m h r x to arrived farewells fits (subst (λ (n : ℕ). r < n) (sym same) known) found.0 found.1 in
      let advance = subst (λ n. IsAdvance n (moment m h) (moment m (after h (Tick to arrived farewells))) (lands h to)) same (tick-advances m h to arrived farewells legal fits advancing) in
      (next.0, next.1, ticked (moment m (after h (Tick to arrived farewells))) next.0 (ticks + 1) (lands h to) found.2 advance next.2 next.3 (left-queued m (after h (Tick to arrived farewells)) r x (robots from) next.0 known next.1) refl)
  followed-entry h ticks (Shut robot farewell) same legal fits advancing found =
      let next = left-shut m h r x robot farewell found.0 found.1 in
      let pause = subst (λ n. IsPause n (moment m h) (moment m (after h (Shut robot farewell)))) same (shut-pause m h robot farewell) in (
        found.0,
        next,
        subst (λ (n : ℕ). Follows (robots from) (reach m) r (moment m from) count (moment m (after h (Shut robot farewell))) found.0 n) (let e : ticks ≡ ticks + 0 = omega arith in e)
            (paused (moment m (after h (Shut robot farewell))) found.0 found.2 pause (omega arith) (left-queued m (after h (Shut robot farewell)) r x (robots from) found.0 known next)),
      )

  run-followed : {P : Entry A → Type 0} {h : History A} {t : ℕ} → IsLeft from r x count → Run m P from h t → IsFollowed h t
  unfolding IsFollowed
  run-followed left stands = (count, left, begins (left-queued m from r x (robots from) count known left))
  run-followed left (went {h} {ticks} g more e run legal fits advancing here same is) =
      subst (λ (n : ℕ). IsFollowed g n) (sym is) (subst (λ (k : History A). IsFollowed k (ticks + cond (is_tick e) 1 0)) (sym same)
      (followed-entry h ticks e (run-robots run) legal fits advancing (run-followed left run)))

  left-none : (h : History A) → IsLeft h r x 0 → IsGone h r x
  left-none h (gone is none) = is
  left-none h (queued k at is) = absurd (omega (arith, is))

  run-gone : {P : Entry A → Type 0} {h : History A} {t : ℕ} → IsLeft from r x count → Run m P from h t → count * (robots from * reach m) ≤ t → IsGone h r x
  unfolding IsFollowed
  run-gone {h = h} {t = t} left run enough =
      let found = run-followed left run in
      let none : found.0 ≡ 0 = errands-arrive (robots from) (reach m) r count found.0 t (moment m from) (moment m h) found.2 enough in
      left-none h (subst (λ (n : ℕ). IsLeft h r x n) none found.1)

-- an errand is gone when all before it and it itself had their ticks
pub errands-gone : {A : Type 0} (m : Floor) (h : History A) → ErrandsArrive m h
errands-gone {A = A} m h r j x more known at goes enough =
    run-gone m h r x known (j + 1) (queued j at refl) (goes-run m h (λ (e : Entry A). e ≡ e) more goes (λ k d l. refl)) enough

slice_get-last : {X : Type 0} (xs : List X) (x : X) → slice_get (xs ++ x ∷ []) (length xs) ≡ Some x
slice_get-last [] x = refl
slice_get-last (y ∷ xs) x = slice_get-last xs x

own : (robot : ℕ) (e : Errand) → cond (eqb robot robot) (e ∷ []) [] ≡ e ∷ []
own robot e = rw (eq-eqb robot robot refl) refl

-- so is an errand that was accepted last
pub accepted-gone : {A : Type 0} (m : Floor) (h : History A) (c : ℕ) (order : Order) (v : Verdict) → IsLegal m h → IsVerdict m h c order v → ArrivesInTurn m h c order v
accepted-gone m h c (Go robot cell) (Accepted number) legal is = λ more goes enough.
    let x : Errand = record { client = c; number = number; cell = cell } in
    let known = accepted-robot m h c number robot cell is in
    let last = unfinished-after_take m h c (Go robot cell) (Accepted number) robot legal is known ∙ ap (λ (u : List Errand). unfinished h robot ++ u) (own robot x) in
    errands-gone m (after h (Take c (Go robot cell) (Accepted number))) robot (length (unfinished h robot)) x more known
    (ap (λ u. slice_get u (length (unfinished h robot))) last ∙ slice_get-last (unfinished h robot) x) goes enough
accepted-gone m h c (Go robot cell) v legal is = tt
accepted-gone m h c Close v legal is = tt
accepted-gone m h c (Withdraw k) v legal is = tt
