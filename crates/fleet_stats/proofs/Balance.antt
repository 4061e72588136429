-- What a history begins with and accepts either arrives, or is withdrawn, or is left.
use Rattle.std.proofs.Common.{◌≡◌, ℕ, zero, suc, ◌+◌, List, [], ◌∷◌, ◌++◌, length, length-append, map, filter, drop, cond, eqb, Bool, true, false, not, Option, Some, None, sym, refl, ap, ◌∙◌, subst, arith, inl, inr, add-zero, zero-add}
use Rattle.std.specs.Prelude.{slice_index, sum_by, count_by, ◌==◌}
use Rattle.std.specs.List.{flat_map, range_with_len}
use Rattle.std.proofs.lemmas.List.{length-map}
use Rattle.std.proofs.lemmas.List.Sums.{sum_by-cons, sum_by-append}
use Rattle.std.proofs.lemmas.Bool.{cases_Bool}
use Rattle.fleet_grid.specs.Floor.{Floor}
use Rattle.fleet_queue.specs.declared.errand.Errand.{Errand}
use Rattle.fleet_queue.specs.Queue.{is_of}
use Rattle.fleet_book.specs.declared.order.Order.{Order}
use Rattle.fleet_book.specs.declared.order.Order.TheVariants.{Go, Close, Withdraw}
use Rattle.fleet_book.specs.declared.verdict.Verdict.{Verdict}
use Rattle.fleet_book.specs.declared.verdict.Verdict.TheVariants.{Accepted, Closed, ClientClosed, Withdrawn, NoRobot, RobotShut, NoCell, Blocked, Unreachable, QueueFull, LifeSpent}
use Rattle.fleet_history.specs.declared.history.Arrival.{Arrival}
use Rattle.fleet_history.specs.declared.history.Bye.{Bye}
use Rattle.fleet_history.specs.declared.history.Entry.{Entry}
use Rattle.fleet_history.specs.declared.history.Entry.TheVariants.{Take, Tick, Shut}
use Rattle.fleet_history.specs.History.{History, start, after, robots, errand_for, unfinished, front, is_accepted}
use Rattle.fleet_history.specs.Verdicts.{IsVerdict, standing}
use Rattle.fleet_history.specs.Legal.{Due, due_of, due_at, due, Fits, IsLegal, opened, grown}
use Rattle.fleet_history.specs.inside.Landing.{landed}
use Rattle.fleet_history.specs.Taking.{kept_by}
use Rattle.fleet_history.proofs.Arrivals.{landed_split, kept-filtered, unfinished-after_take, unfinished-after_tick, unfinished-after_shut}
use Rattle.fleet_history.proofs.Legal.{accepted-go, accepted-robot}
use Rattle.fleet_history.proofs.Owed.{named_once}
use Rattle.fleet_history.proofs.Sums.{sum_range_same, sum_range_add, sum_range_zero, sum_range_one, count_cons}
use Rattle.fleet_stats.specs.Counts.{is_acceptance, is_withdrawn, is_withdrawal, arrivals_shown, waiting, acceptance_count, withdrawal_count, arrival_count}

-- ---- verdicts

abbrev more : Order → Verdict → ℕ
more (Go robot cell) (Accepted number) = 1
more _ _ = 0

abbrev less : Order → Verdict → ℕ
less (Withdraw number) Withdrawn = 1
less _ _ = 0

go_never : (z a b c d e g l : Bool) (n : ℕ) →
    Withdrawn ≡ cond z ClientClosed (cond a (cond b RobotShut (cond c (cond d (cond e (cond g QueueFull (cond l LifeSpent (Accepted n))) Unreachable) Blocked) NoCell)) NoRobot) → ⊥
go_never true a b c d e g l n q = cc
go_never false false b c d e g l n q = cc
go_never false true true c d e g l n q = cc
go_never false true false false d e g l n q = cc
go_never false true false true false e g l n q = cc
go_never false true false true true false g l n q = cc
go_never false true false true true true true l n q = cc
go_never false true false true true true false true n q = cc
go_never false true false true true true false false n q = cc

close_never : (z : Bool) → Withdrawn ≡ cond z ClientClosed Closed → ⊥
close_never true q = cc
close_never false q = cc

accepted-more : {A : Type 0} (m : Floor) (h : History A) (c : ℕ) (order : Order) (v : Verdict) → IsVerdict m h c order v → cond (is_accepted v) 1 0 ≡ more order v
accepted-more m h c (Go robot cell) (Accepted n) is = refl
accepted-more m h c Close (Accepted n) is = let p = accepted-go m h c n Close is in let q = p.2 in cc
accepted-more m h c (Withdraw k) (Accepted n) is = let p = accepted-go m h c n (Withdraw k) is in let q = p.2 in cc
accepted-more m h c order v is = refl

withdrawn-less : {A : Type 0} (m : Floor) (h : History A) (c : ℕ) (order : Order) (v : Verdict) → IsVerdict m h c order v → cond (is_withdrawn v) 1 0 ≡ less order v
withdrawn-less m h c (Withdraw k) Withdrawn is = refl
withdrawn-less m h c (Go robot cell) Withdrawn is =
    let f = is.facts in
    let s = standing h c (Go robot cell) in
    absurd (go_never s.closed f.robot_known s.shut f.in_range f.floor f.same_part f.queue_full (eqb s.accepted s.life) (s.accepted + 1) is.judged)
withdrawn-less m h c Close Withdrawn is = absurd (close_never (standing h c Close).closed is.judged)
withdrawn-less m h c order v is = refl

-- ---- a take

made_one : (r client robot cell n : ℕ) → length (errand_for r client (Go robot cell) (Accepted n)) ≡ cond (eqb robot r) 1 0
made_one r client robot cell n =
    elim (cases_Bool (eqb robot r)) [
      | inl e ↦ rw (e) refl
      | inr e ↦ rw (e) refl
    ]

made : {A : Type 0} (m : Floor) (h : History A) (client : ℕ) (order : Order) (v : Verdict) → IsVerdict m h client order v →
    sum_by (λ r. length (errand_for r client order v)) (range_with_len 0 (robots h)) ≡ more order v
made m h client (Go robot cell) (Accepted n) v =
    sum_range_same (λ r. length (errand_for r client (Go robot cell) (Accepted n))) (λ r. cond (eqb robot r) 1 0) 0 (robots h) (λ r l u. made_one r client robot cell n)
    ∙ sum_range_one robot 1 0 (robots h) (omega arith) (omega (arith, accepted-robot m h client n robot cell v))
made m h client (Go robot cell) v is = sum_range_zero 0 (robots h)
made m h client Close v is = sum_range_zero 0 (robots h)
made m h client (Withdraw number) v is = sum_range_zero 0 (robots h)

-- what a test passes and what it does not
parted : {X : Type 0} (p : X → Bool) (xs : List X) → length xs ≡ length (filter (λ x. not (p x)) xs) + count_by p xs
parted p [] = refl
parted p (x ∷ xs) =
    let here = count_cons p x xs in
    let rest = parted p xs in
    elim (cases_Bool (p x)) [
      | inl e ↦
          let left : filter (λ y. not (p y)) (x ∷ xs) ≡ filter (λ y. not (p y)) xs = rw (e) refl in
          omega (arith, here, rest, ap length left, ap {B = ℕ} (λ b. cond b 1 0) e)
      | inr e ↦
          let left : filter (λ y. not (p y)) (x ∷ xs) ≡ x ∷ filter (λ y. not (p y)) xs = rw (e) refl in
          omega (arith, here, rest, ap length left, ap {B = ℕ} (λ b. cond b 1 0) e)
    ]

kept : {A : Type 0} (m : Floor) (h : History A) (client : ℕ) (order : Order) (v : Verdict) → IsLegal m h → IsVerdict m h client order v →
    waiting h ≡ sum_by (λ r. length (kept_by client order v (unfinished h r))) (range_with_len 0 (robots h)) + less order v
kept m h client (Withdraw k) Withdrawn legal is =
    sum_range_add (λ r. length (unfinished h r)) (λ r. length (kept_by client (Withdraw k) Withdrawn (unfinished h r))) (λ r. count_by (is_of client k) (unfinished h r)) 0 (robots h)
    (λ r l u. parted (is_of client k) (unfinished h r)
    ∙ ap (λ t. length t + count_by (is_of client k) (unfinished h r)) (sym (kept-filtered m h client (Withdraw k) Withdrawn r legal is (omega arith))))
    ∙ ap (λ n. sum_by (λ r. length (kept_by client (Withdraw k) Withdrawn (unfinished h r))) (range_with_len 0 (robots h)) + n) (named_once m h client k legal is)
kept m h client order v legal is = sym (add-zero (waiting h))

after-take : {A : Type 0} (m : Floor) (h : History A) (client : ℕ) (order : Order) (v : Verdict) → IsLegal m h → IsVerdict m h client order v →
    waiting (after h (Take client order v)) + less order v ≡ waiting h + more order v
after-take m h client order v legal is =
    let grown : waiting (after h (Take client order v)) ≡ sum_by (λ r. length (kept_by client order v (unfinished h r))) (range_with_len 0 (robots h)) + more order v =
    sum_range_add (λ r. length (unfinished (after h (Take client order v)) r)) (λ r. length (kept_by client order v (unfinished h r))) (λ r. length (errand_for r client order v)) 0 (robots h)
    (λ r l u. ap length (unfinished-after_take m h client order v r legal is (omega arith)) ∙ length-append (kept_by client order v (unfinished h r)) (errand_for r client order v))
    ∙ ap (λ n. sum_by (λ r. length (kept_by client order v (unfinished h r))) (range_with_len 0 (robots h)) + n) (made m h client order v is) in
    omega (arith, grown, kept m h client order v legal is)

-- ---- a tick

length_flat : (f : ℕ → List Due) (a n : ℕ) → length (flat_map f (range_with_len a n)) ≡ sum_by (λ r. length (f r)) (range_with_len a n)
length_flat f a zero = refl
length_flat f a (suc n) =
    length-append (f a) (flat_map f (range_with_len (a + 1) n))
    ∙ ap (λ k. length (f a) + k) (length_flat f (a + 1) n)
    ∙ sym (sum_by-cons (λ r. length (f r)) a (range_with_len (a + 1) n))

length_due : (to : List ℕ) (r : ℕ) (o : Option Errand) → length (due_at to r o) ≡ length (landed to r o)
length_due to r None = refl
length_due to r (Some f) =
    elim (cases_Bool (eqb f.cell (slice_index to r))) [
      | inl e ↦ rw (e) refl
      | inr e ↦ rw (e) refl
    ]

after-tick : {A : Type 0} (h : History A) (to : List ℕ) (arrived : List Arrival) (farewells : List Bye) → map due_of arrived ≡ due h to →
    waiting (after h (Tick to arrived farewells)) + length arrived ≡ waiting h
after-tick h to arrived farewells shows =
    let left = λ (r : ℕ). length (unfinished (after h (Tick to arrived farewells)) r) in
    let gone = λ (r : ℕ). length (landed to r (front h r)) in
    let shown : length arrived ≡ sum_by gone (range_with_len 0 (robots h)) =
    sym (length-map arrived due_of) ∙ ap length shows ∙ length_flat (λ r. due_at to r (front h r)) 0 (robots h)
    ∙ sum_range_same (λ r. length (due_at to r (front h r))) gone 0 (robots h) (λ r l u. length_due to r (front h r)) in
    let all : waiting h ≡ sum_by left (range_with_len 0 (robots h)) + sum_by gone (range_with_len 0 (robots h)) =
    sum_range_add (λ r. length (unfinished h r)) left gone 0 (robots h)
    (λ r l u.
    let split : length (unfinished h r) ≡ gone r + length (drop (length (landed to r (front h r))) (unfinished h r)) =
    ap length (sym (landed_split to r (unfinished h r))) ∙ length-append (landed to r (front h r)) (drop (length (landed to r (front h r))) (unfinished h r)) in
    let rest : left r ≡ length (drop (length (landed to r (front h r))) (unfinished h r)) =
    ap length (unfinished-after_tick h to arrived farewells r (omega arith) shows) in
    omega arith) in
    ap (λ n. sum_by left (range_with_len 0 (robots h)) + n) shown ∙ sym all

after-shut : {A : Type 0} (h : History A) (robot : ℕ) (farewell : Option ℕ) → waiting (after h (Shut robot farewell)) ≡ waiting h
after-shut h robot farewell =
    sum_range_same (λ r. length (unfinished (after h (Shut robot farewell)) r)) (λ r. length (unfinished h r)) 0 (robots h)
    (λ r l u. ap length (unfinished-after_shut h robot farewell r))

-- ---- a history

after-entry : {A : Type 0} (m : Floor) (h : History A) (e : Entry A) → IsLegal m h → Fits m h e →
    waiting (after h e) + cond (is_withdrawal e) 1 0 + arrivals_shown e ≡ waiting h + cond (is_acceptance e) 1 0
after-entry m h (Take client order v) legal fits =
    omega (arith, after-take m h client order v legal fits.1, accepted-more m h client order v fits.1, withdrawn-less m h client order v fits.1)
after-entry m h (Tick to arrived farewells) legal fits = omega (arith, after-tick h to arrived farewells fits.shows)
after-entry m h (Shut robot farewell) legal fits = omega (arith, after-shut h robot farewell)

pub one-more : {X : Type 0} (f : X → ℕ) (xs : List X) (x : X) → sum_by f (xs ++ x ∷ []) ≡ sum_by f xs + f x
one-more f xs x = sum_by-append f xs (x ∷ []) ∙ ap (λ n. sum_by f xs + n) (sum_by-cons f x [] ∙ add-zero (f x))

abbrev pub IsBalanced : {A : Type 0} → History A → Type 0
IsBalanced h = waiting (start h.opening) + acceptance_count h ≡ waiting h + arrival_count h + withdrawal_count h

pub balanced : {A : Type 0} (m : Floor) (h : History A) → IsLegal m h → IsBalanced h
balanced m h (opened i) = omega arith
balanced {A} m g (grown {h} e legal fits same) =
    subst (λ (g : History A). IsBalanced g) (sym same)
    (omega (
      arith,
      balanced m h legal,
      after-entry m h e legal fits,
      one-more (λ (x : Entry A). cond (is_acceptance x) 1 0) h.entries e,
      one-more (λ (x : Entry A). cond (is_withdrawal x) 1 0) h.entries e,
      one-more (λ (x : Entry A). arrivals_shown x) h.entries e,
    ))
