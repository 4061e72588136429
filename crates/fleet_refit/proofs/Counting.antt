-- How many errands robots have, and how many they dropped.
use Rattle.std.proofs.Common.{◌≡◌, ◌≢◌, ◌∙◌, ◌+◌, ◌<◌, ℕ, zero, suc, List, [], ◌∷◌, ◌++◌, Bool, false, ap, arith, refl, sym, cond, get_or}
use Rattle.std.specs.Prelude.{map, count_by, sum_by, ◌==◌}
use Rattle.std.proofs.lemmas.Bool.{eq-eqb, ne_eqb}
use Rattle.std.proofs.lemmas.List.Sums.{sum_by-cons}
use Rattle.fleet_queue.specs.declared.errand.Errand.{Errand}
use Rattle.fleet_history.specs.declared.history.RobotState.{RobotState}
use Rattle.fleet_history.proofs.Sums.{count_append, count_cons}
use Rattle.fleet_refit.specs.declared.change.Dropped.{Dropped}
use Rattle.fleet_refit.specs.declared.seat.Seat.{Seat}
use Rattle.fleet_refit.specs.Account.{AreSome, was_of}
use Rattle.fleet_refit.specs.Sifting.{dropped_of}
use Rattle.fleet_refit.proofs.Losing.{Loses, LosesAs}
use Rattle.fleet_refit.proofs.Shorter.{some-none}
use Rattle.fleet_refit.proofs.Steps.{Steps, done, step}

-- ---- what one robot dropped

own-count : (robot : ℕ) (test : Errand → Bool) (gone : List Errand) → count_by (was_of robot test) (map (dropped_of robot) gone) ≡ count_by test gone
own-count robot test [] = refl
own-count robot test (e ∷ gone) =
    let mine : was_of robot test (dropped_of robot e) ≡ test e = rw (eq-eqb robot robot refl) refl in
    count_cons (was_of robot test) (dropped_of robot e) (map (dropped_of robot) gone)
    ∙ rw (mine, own-count robot test gone) (sym (count_cons test e gone))

other-count : (robot r : ℕ) (test : Errand → Bool) (gone : List Errand) → robot ≢ r → count_by (was_of r test) (map (dropped_of robot) gone) ≡ 0
other-count robot r test [] apart = refl
other-count robot r test (e ∷ gone) apart =
    let not_mine : was_of r test (dropped_of robot e) ≡ false = rw (ne_eqb robot r apart) refl in
    count_cons (was_of r test) (dropped_of robot e) (map (dropped_of robot) gone)
    ∙ rw (not_mine, other-count robot r test gone apart) refl

client-count : (robot client : ℕ) (gone : List Errand) → count_by (λ d. d.client == client) (map (dropped_of robot) gone) ≡ count_by (λ e. e.client == client) gone
client-count robot client [] = refl
client-count robot client (e ∷ gone) =
    count_cons (λ (d : Dropped). d.client == client) (dropped_of robot e) (map (dropped_of robot) gone)
    ∙ ap (λ n. cond (e.client == client) 1 0 + n) (client-count robot client gone)
    ∙ sym (count_cons (λ (f : Errand). f.client == client) e gone)

pub loses-own : {A : Type 0} (robot : ℕ) (x y : RobotState A) (out : List Dropped) (test : Errand → Bool) → Loses robot x y out →
    count_by test x.errands ≡ count_by test y.errands + count_by (was_of robot test) out
loses-own robot x y out test loses =
    loses.counted test ∙ ap (λ n. count_by test y.errands + n) (sym (ap (count_by (was_of robot test)) loses.named ∙ own-count robot test loses.gone))

pub loses-other : {A : Type 0} (robot r : ℕ) (x y : RobotState A) (out : List Dropped) (test : Errand → Bool) → Loses robot x y out → robot ≢ r → count_by (was_of r test) out ≡ 0
loses-other robot r x y out test loses apart = ap (count_by (was_of r test)) loses.named ∙ other-count robot r test loses.gone apart

pub loses-client : {A : Type 0} (robot client : ℕ) (x y : RobotState A) (out : List Dropped) → Loses robot x y out →
    count_by (λ e. e.client == client) x.errands ≡ count_by (λ e. e.client == client) y.errands + count_by (λ d. d.client == client) out
loses-client robot client x y out loses =
    loses.counted (λ e. e.client == client)
    ∙ ap (λ n. count_by (λ e. e.client == client) y.errands + n) (sym (ap (count_by (λ d. d.client == client)) loses.named ∙ client-count robot client loses.gone))

-- ---- what all robots dropped

-- the errands of each robot
abbrev pub lists : {A : Type 0} → List (Seat A) → List (List Errand)
lists seats = map (λ x. x.errands) (map (λ x. x.robot) seats)

abbrev pub nth : {A : Type 0} → List (Seat A) → ℕ → List Errand
nth seats r = get_or (lists seats) r []

-- how many errands of a client there are
abbrev pub owing : {A : Type 0} → List (Seat A) → ℕ → ℕ
owing seats client = sum_by (λ x. count_by (λ e. e.client == client) x.errands) (map (λ x. x.robot) seats)

later-count : {A : Type 0} (n : ℕ) (xs ys : List (Seat A)) (out : List Dropped) (r : ℕ) (test : Errand → Bool) → Steps LosesAs n xs ys out → r < n → count_by (was_of r test) out ≡ 0
later-count n _ _ _ r test done less = refl
later-count n _ _ _ r test (step {xs = xs} {ys = ys} {rest = rest} x y dropped loses others) less =
    count_append (was_of r test) dropped rest
    ∙ rw (loses-other n r x.robot y.robot dropped test loses (omega (arith, less)), later-count (n + 1) xs ys rest r test others (omega (arith, less))) refl

pub steps-each : {A : Type 0} (n : ℕ) (xs ys : List (Seat A)) (out : List Dropped) (r : ℕ) (test : Errand → Bool) → Steps LosesAs n xs ys out →
    count_by test (nth xs r) ≡ count_by test (nth ys r) + count_by (was_of (n + r) test) out
steps-each n _ _ _ r test done = refl
steps-each n _ _ _ zero test (step {xs = xs} {ys = ys} {rest = rest} x y dropped loses others) =
    let here = loses-own n x.robot y.robot dropped test loses in
    let after = later-count (n + 1) xs ys rest n test others (omega arith) in
    let whole : count_by (was_of (n + zero) test) (dropped ++ rest) ≡ count_by (was_of n test) dropped + count_by (was_of n test) rest =
    ap (λ k. count_by (was_of k test) (dropped ++ rest)) (omega arith) ∙ count_append (was_of n test) dropped rest in
    here ∙ ap (λ k. count_by test y.robot.errands + k) (omega (arith, after, whole))
steps-each n _ _ _ (suc r) test (step {xs = xs} {ys = ys} {rest = rest} x y dropped loses others) =
    let here = loses-other n (n + suc r) x.robot y.robot dropped test loses (omega arith) in
    let moved : count_by (was_of (n + suc r) test) rest ≡ count_by (was_of ((n + 1) + r) test) rest = ap (λ k. count_by (was_of k test) rest) (omega arith) in
    let whole = count_append (was_of (n + suc r) test) dropped rest in
    steps-each (n + 1) xs ys rest r test others ∙ ap (λ k. count_by test (nth ys r) + k) (omega (arith, here, moved, whole))

pub steps-owed : {A : Type 0} (n : ℕ) (xs ys : List (Seat A)) (out : List Dropped) (client : ℕ) → Steps LosesAs n xs ys out → owing xs client ≡ owing ys client + count_by (λ d. d.client == client) out
steps-owed n _ _ _ client done = refl
steps-owed {A} n _ _ _ client (step {xs = xs} {ys = ys} {rest = rest} x y dropped loses others) =
    let of : RobotState A → ℕ = λ z. count_by (λ e. e.client == client) z.errands in
    omega (
      arith,
      sum_by-cons of x.robot (map (λ z. z.robot) xs),
      sum_by-cons of y.robot (map (λ z. z.robot) ys),
      loses-client n client x.robot y.robot dropped loses,
      steps-owed (n + 1) xs ys rest client others,
      count_append (λ (d : Dropped). d.client == client) dropped rest,
    )

pub steps-order : {A : Type 0} (n : ℕ) (xs ys : List (Seat A)) (out : List Dropped) (r : ℕ) → Steps LosesAs n xs ys out → AreSome (nth ys r) (nth xs r)
steps-order n _ _ _ r done = some-none []
steps-order n _ _ _ zero (step x y dropped loses others) = loses.some
steps-order n _ _ _ (suc r) (step {xs = xs} {ys = ys} {rest = rest} x y dropped loses others) = steps-order (n + 1) xs ys rest r others
