-- What one more entry makes of a client's account and counts.
use Rattle.std.proofs.Common.{◌≡◌, ℕ, ◌+◌, ◌-◌, ◌≤◌, List, cond, eqb, Bool, true, false, ◌||◌, Option, sym, refl, ◌∙◌, arith, add-zero}
use Rattle.std.specs.Prelude.{count_by, ◌==◌, map}
use Rattle.std.proofs.lemmas.Bool.{eq-eqb, ne_eqb, eqb-false}
use Rattle.std.proofs.Math.Bool.{or-false}
use Rattle.fleet_grid.specs.Floor.{Floor}
use Rattle.fleet_book.specs.declared.account.Account.{Account}
use Rattle.fleet_book.specs.declared.facts.Facts.{Facts}
use Rattle.fleet_book.specs.declared.order.Order.{Order}
use Rattle.fleet_book.specs.declared.order.Order.TheVariants.{Go, Close, Withdraw}
use Rattle.fleet_book.specs.declared.verdict.Verdict.{Verdict}
use Rattle.fleet_book.specs.declared.verdict.Verdict.TheVariants.{Accepted, Closed, Withdrawn, ClientClosed, NoRobot, RobotShut, NoCell, Blocked, Unreachable, QueueFull, LifeSpent}
use Rattle.fleet_book.specs.Counts.{entered, MayEnter}
use Rattle.fleet_book.specs.Rule.{Standing, verdict_of}
use Rattle.fleet_history.specs.declared.history.Arrival.{Arrival}
use Rattle.fleet_history.specs.declared.history.Bye.{Bye}
use Rattle.fleet_history.specs.declared.history.Entry.{Entry}
use Rattle.fleet_history.specs.declared.history.Entry.TheVariants as entry
use Rattle.fleet_history.specs.History.{History, after, owed, accepts, closes, accepted_count, taken_count, is_closed}
use Rattle.fleet_history.specs.Verdicts.{IsVerdict, standing}
use Rattle.fleet_history.specs.Notices.{noticed_count}
use Rattle.fleet_history.specs.Legal.{IsLegal, due_of, due}
use Rattle.fleet_history.proofs.After.{accepted_count-after, taken_count-after, noticed_count-after, closed-after}
use Rattle.fleet_history.proofs.Legal.{accepted-rule}
use Rattle.fleet_history.proofs.Owed.{owed_more, owed_less, owed-after_take, owed-after_tick, owed-after_shut}
use Rattle.fleet_history.proofs.Places.{withdrawn-owed}
use Rattle.fleet_state.specs.State.{account_after, tally_after}
use Rattle.fleet_state.proofs.Laws.{no_accepted_close, no_accepted_withdraw, lt_from_ne}

no_withdrawn_go : (z a b c d e g l : Bool) (n : ℕ) →
    Withdrawn ≡ cond z ClientClosed (cond a (cond b RobotShut (cond c (cond d (cond e (cond g QueueFull (cond l LifeSpent (Accepted n))) Unreachable) Blocked) NoCell)) NoRobot) → ⊥
no_withdrawn_go true a b c d e g l n q = cc
no_withdrawn_go false false b c d e g l n q = cc
no_withdrawn_go false true true c d e g l n q = cc
no_withdrawn_go false true false false d e g l n q = cc
no_withdrawn_go false true false true false e g l n q = cc
no_withdrawn_go false true false true true false g l n q = cc
no_withdrawn_go false true false true true true true l n q = cc
no_withdrawn_go false true false true true true false true n q = cc
no_withdrawn_go false true false true true true false false n q = cc

-- only a withdrawal is answered Withdrawn
withdrawn_go : (s : Standing) (f : Facts) (robot cell : ℕ) → Withdrawn ≡ verdict_of (Go robot cell) s f → ⊥
withdrawn_go s f robot cell e = no_withdrawn_go s.closed f.robot_known s.shut f.in_range f.floor f.same_part f.queue_full (eqb s.accepted s.life) (s.accepted + 1) e

withdrawn_close : (s : Standing) (f : Facts) → Withdrawn ≡ verdict_of Close s f → ⊥
withdrawn_close s f e = go s.closed e
  where
    go : (b : Bool) → Withdrawn ≡ cond b ClientClosed Closed → ⊥
    go true e = cc
    go false e = cc

-- the verdict may be entered in the book
pub may-enter : {A : Type 0} (m : Floor) (h : History A) (c : ℕ) (order : Order) (v : Verdict) → IsLegal m h → IsVerdict m h c order v → accepted_count h c ≤ h.opening.life → MayEnter h.opening.life v (account_after h c)
may-enter m h c (Go robot cell) (Accepted n) legal is within =
    let why = accepted-rule (standing h c (Go robot cell)) is.facts n robot cell is.judged in
    (why.number, omega (arith, why.number, lt_from_ne (accepted_count h c) h.opening.life within (eqb-false (accepted_count h c) h.opening.life why.life_left)))
may-enter m h c Close (Accepted n) legal is within = absurd (no_accepted_close (standing h c Close) is.facts n is.judged)
may-enter m h c (Withdraw k) (Accepted n) legal is within = absurd (no_accepted_withdraw (standing h c (Withdraw k)) is.facts n k is.judged)
may-enter m h c (Withdraw k) Withdrawn legal is within = omega (arith, withdrawn-owed m h c k legal is)
may-enter m h c (Go robot cell) Withdrawn legal is within = absurd (withdrawn_go (standing h c (Go robot cell)) is.facts robot cell is.judged)
may-enter m h c Close Withdrawn legal is within = absurd (withdrawn_close (standing h c Close) is.facts is.judged)
may-enter m h c order v legal is within = tt

-- ---- a client's account and tally after a take

pub account_same : (a a' b b' : ℕ) (c c' : Bool) → a ≡ a' → b ≡ b' → c ≡ c' → ◌≡◌ {A = Account} (record { accepted = a; owed = b; closed = c }) (record { accepted = a'; owed = b'; closed = c' })
account_same a a' b b' c c' p q r = rw (p, q, r) refl

pub or-true : (b : Bool) → (b || true) ≡ true
or-true true = refl
or-true false = refl

account_take : {A : Type 0} (m : Floor) (h : History A) (c : ℕ) (order : Order) (v : Verdict) → IsVerdict m h c order v →
    entered v (account_after h c) ≡ record { accepted = accepted_count h c + cond (accepts {A = A} c (entry.Take c order v)) 1 0; owed = owed h c + owed_more c c order v - owed_less c c order v; closed = is_closed h c || closes {A = A} c (entry.Take c order v) }
account_take m h c (Go robot cell) (Accepted n) is = rw (eq-eqb c c refl) (account_same (accepted_count h c + 1) (accepted_count h c + 1) (owed h c + 1) (owed h c + 1 - 0) (is_closed h c) (is_closed h c || false) refl (omega arith) (sym (or-false (is_closed h c))))
account_take m h c Close (Accepted n) is = absurd (no_accepted_close (standing h c Close) is.facts n is.judged)
account_take m h c (Withdraw k) (Accepted n) is = absurd (no_accepted_withdraw (standing h c (Withdraw k)) is.facts n k is.judged)
account_take m h c (Go robot cell) Withdrawn is = absurd (withdrawn_go (standing h c (Go robot cell)) is.facts robot cell is.judged)
account_take m h c Close Withdrawn is = absurd (withdrawn_close (standing h c Close) is.facts is.judged)
account_take m h c (Withdraw k) Withdrawn is = rw (eq-eqb c c refl) (account_same (accepted_count h c) (accepted_count h c + 0) (owed h c - 1) (owed h c + 0 - 1) (is_closed h c) (is_closed h c || false) (omega arith) (omega arith) (sym (or-false (is_closed h c))))
account_take m h c (Go robot cell) Closed is = rw (eq-eqb c c refl) (account_same (accepted_count h c) (accepted_count h c + 0) (owed h c) (owed h c + 0 - 0) true (is_closed h c || true) (omega arith) (omega arith) (sym (or-true (is_closed h c))))
account_take m h c Close Closed is = rw (eq-eqb c c refl) (account_same (accepted_count h c) (accepted_count h c + 0) (owed h c) (owed h c + 0 - 0) true (is_closed h c || true) (omega arith) (omega arith) (sym (or-true (is_closed h c))))
account_take m h c (Withdraw k) Closed is = rw (eq-eqb c c refl) (account_same (accepted_count h c) (accepted_count h c + 0) (owed h c) (owed h c + 0 - 0) true (is_closed h c || true) (omega arith) (omega arith) (sym (or-true (is_closed h c))))
account_take m h c (Go robot cell) v is = rw (eq-eqb c c refl) (account_same (accepted_count h c) (accepted_count h c + 0) (owed h c) (owed h c + 0 - 0) (is_closed h c) (is_closed h c || false) (omega arith) (omega arith) (sym (or-false (is_closed h c))))
account_take m h c Close v is = rw (eq-eqb c c refl) (account_same (accepted_count h c) (accepted_count h c + 0) (owed h c) (owed h c + 0 - 0) (is_closed h c) (is_closed h c || false) (omega arith) (omega arith) (sym (or-false (is_closed h c))))
account_take m h c (Withdraw k) v is = rw (eq-eqb c c refl) (account_same (accepted_count h c) (accepted_count h c + 0) (owed h c) (owed h c + 0 - 0) (is_closed h c) (is_closed h c || false) (omega arith) (omega arith) (sym (or-false (is_closed h c))))

owed_more-other : (c client : ℕ) (order : Order) (v : Verdict) → (client ≡ c → ⊥) → owed_more c client order v ≡ 0
owed_more-other c client (Go robot cell) (Accepted n) ne = rw (ne_eqb client c ne) refl
owed_more-other c client (Go robot cell) v ne = refl
owed_more-other c client Close v ne = refl
owed_more-other c client (Withdraw k) v ne = refl

owed_less-other : (c client : ℕ) (order : Order) (v : Verdict) → (client ≡ c → ⊥) → owed_less c client order v ≡ 0
owed_less-other c client (Withdraw k) Withdrawn ne = rw (ne_eqb client c ne) refl
owed_less-other c client order v ne = refl

pub account-take_same : {A : Type 0} (m : Floor) (h : History A) (c : ℕ) (order : Order) (v : Verdict) → IsLegal m h → IsVerdict m h c order v →
    account_after (after h (entry.Take c order v)) c ≡ entered v (account_after h c)
account-take_same {A = A} m h c order v legal is =
    let e : Entry A = entry.Take c order v in
    account_same _ _ _ _ _ _ (accepted_count-after h c e) (omega (arith, owed-after_take m h c c order v legal is)) (closed-after h c e) ∙ sym (account_take m h c order v is)

pub account-take_other : {A : Type 0} (m : Floor) (h : History A) (k c : ℕ) (order : Order) (v : Verdict) → IsLegal m h → IsVerdict m h c order v → (c ≡ k → ⊥) →
    account_after (after h (entry.Take c order v)) k ≡ account_after h k
account-take_other {A = A} m h k c order v legal is ne =
    let e : Entry A = entry.Take c order v in
    account_same _ _ _ _ _ _
    (accepted_count-after h k e ∙ rw (ne_eqb c k ne) (add-zero (accepted_count h k)))
    (omega (arith, owed-after_take m h k c order v legal is, owed_more-other k c order v ne, owed_less-other k c order v ne))
    (closed-after h k e ∙ rw (ne_eqb c k ne) (or-false (is_closed h k)))

pub tally-take_same : {A : Type 0} (h : History A) (c : ℕ) (order : Order) (v : Verdict) →
    tally_after (after h (entry.Take c order v)) c ≡ record { taken = taken_count h c + 1; noticed = noticed_count h c + 1 }
tally-take_same {A = A} h c order v =
    let e : Entry A = entry.Take c order v in
    rw (taken_count-after h c e, noticed_count-after h c e, eq-eqb c c refl) refl

pub tally-take_other : {A : Type 0} (h : History A) (k c : ℕ) (order : Order) (v : Verdict) → (c ≡ k → ⊥) → tally_after (after h (entry.Take c order v)) k ≡ tally_after h k
tally-take_other {A = A} h k c order v ne =
    let e : Entry A = entry.Take c order v in
    rw (taken_count-after h k e, noticed_count-after h k e, ne_eqb c k ne) (simp add-zero)

pub account-shut : {A : Type 0} (h : History A) (c robot : ℕ) (farewell : Option ℕ) → account_after (after h (entry.Shut robot farewell)) c ≡ account_after h c
account-shut {A = A} h c robot farewell =
    let e : Entry A = entry.Shut robot farewell in
    account_same _ _ _ _ _ _ (accepted_count-after h c e ∙ add-zero (accepted_count h c)) (owed-after_shut h c robot farewell) (closed-after h c e ∙ or-false (is_closed h c))

pub tally-shut : {A : Type 0} (h : History A) (c robot : ℕ) (farewell : Option ℕ) → tally_after (after h (entry.Shut robot farewell)) c ≡ tally_after h c
tally-shut {A = A} h c robot farewell =
    let e : Entry A = entry.Shut robot farewell in
    rw (taken_count-after h c e, noticed_count-after h c e) (simp add-zero)

-- ---- a tick

pub account-tick : {A : Type 0} (h : History A) (c : ℕ) (to : List ℕ) (arrived : List Arrival) (farewells : List Bye) → map due_of arrived ≡ due h to →
    account_after (after h (entry.Tick to arrived farewells)) c ≡ record { accepted = accepted_count h c; owed = owed h c - count_by (λ a. a.client == c) arrived; closed = is_closed h c }
account-tick {A = A} h c to arrived farewells shows =
    let e : Entry A = entry.Tick to arrived farewells in
    let less : owed (after h e) c ≡ owed h c - count_by (λ a. a.client == c) arrived = omega (arith, owed-after_tick h c to arrived farewells shows) in
    rw (accepted_count-after h c e, less, closed-after h c e, or-false (is_closed h c)) (simp add-zero)

pub tally-tick : {A : Type 0} (h : History A) (c : ℕ) (to : List ℕ) (arrived : List Arrival) (farewells : List Bye) →
    tally_after (after h (entry.Tick to arrived farewells)) c ≡ record { taken = taken_count h c; noticed = noticed_count h c + count_by (λ a. a.client == c) arrived }
tally-tick {A = A} h c to arrived farewells =
    let e : Entry A = entry.Tick to arrived farewells in
    rw (taken_count-after h c e, noticed_count-after h c e) (simp add-zero)
