-- What holds of each legal history: its numbers may still grow, and room is left for what it accepts.
use Rattle.std.proofs.Common.{◌+◌, ◌≡◌, ℕ, ◌^◌, ◌<◌, ◌≤◌, length, map, cond, Bool, true, false, sym, ◌∙◌, subst, arith, inl, inr, get_or}
use Rattle.std.specs.Prelude.{slice_index_or}
use Rattle.std.proofs.lemmas.List.{length-map, get_or-map, get_or_past}
use Rattle.std.proofs.lemmas.List.Sums.{count_by-le-length}
use Rattle.std.proofs.lemmas.Bool.{ne_eqb, cases_eq}
use Rattle.std.proofs.Math.Bool.{or-false}
use Rattle.fleet_grid.specs.Floor.{Floor}
use Rattle.fleet_book.specs.declared.order.Order.TheVariants.{Go, Close, Withdraw}
use Rattle.fleet_book.specs.declared.facts.Facts.{Facts}
use Rattle.fleet_book.specs.declared.facts.Place.{Place}
use Rattle.fleet_book.specs.declared.facts.Place.TheVariants.{Absent, Front, Behind}
use Rattle.fleet_book.specs.Rule.{Standing, verdict_of, place_verdict}
use Rattle.fleet_book.specs.declared.verdict.Verdict.TheVariants.{Accepted, Closed, ClientClosed}
use Rattle.fleet_history.specs.declared.history.Entry.TheVariants.{Take, Tick, Shut}
use Rattle.fleet_history.specs.declared.history.Opening.{Opening}
use Rattle.fleet_history.specs.declared.history.RobotState.{RobotState}
use Rattle.fleet_history.specs.History.{History, robots, clients, unfinished, taken_count, is_take_of, is_shut}
use Rattle.fleet_history.specs.Notices.{noticed_count}
use Rattle.fleet_history.specs.Verdicts.{IsVerdict, standing}
use Rattle.fleet_history.specs.Legal.{IsLegal, opened, grown}
use Rattle.fleet_history.proofs.After.{shut-after}
use Rattle.fleet_history.proofs.Counts.{legal-counts}
use Rattle.fleet_history.proofs.Legal.{accepted-rule, legal-opening, unknown_robot}

pub lt_from_ne : (a b : ℕ) → a ≤ b → (a ≡ b → ⊥) → a < b
lt_from_ne a b l ne = elim (cases_eq a b) [ inl s ↦ absurd (ne s) | inr s ↦ omega arith ]

pub both_ways : (b : Bool) → b ≡ false → b ≡ true → ⊥
both_ways b p q = cc

-- what is known of a robot at the opening
pub robot-at : {A X : Type 0} (p : RobotState A → X) (o : Opening A) (r : ℕ) (d : X) → r < length o.robots → get_or (map p o.robots) r d ≡ p (get_or o.robots r unknown_robot)
robot-at p o r d l = get_or-map p o.robots r unknown_robot d l

-- ---- queues

-- an accepted errand finds room
pub room-left : {A : Type 0} (m : Floor) (h : History A) (c n robot cell : ℕ) → IsVerdict m h c (Go robot cell) (Accepted n) → length (unfinished h robot) ≤ h.opening.queue → length (unfinished h robot) < h.opening.queue
room-left m h c n robot cell v within =
    let why = accepted-rule (standing h c (Go robot cell)) v.facts n robot cell v.judged in
    lt_from_ne (length (unfinished h robot)) h.opening.queue within (λ e. both_ways v.facts.queue_full why.room ((v.are_facts.full (v.are_facts.known.0 why.known)).1 e))

-- ---- robots that are none are not shut

pub legal-unshut : {A : Type 0} (m : Floor) (h : History A) (r : ℕ) → IsLegal m h → robots h ≤ r → is_shut h r ≡ false
legal-unshut {A = A} m h r (opened {o} i) l = or-false (slice_index_or (map (λ (x : RobotState A). x.shut) o.robots) r false) ∙ get_or_past (map (λ (x : RobotState A). x.shut) o.robots) r false (omega (arith, length-map o.robots (λ (x : RobotState A). x.shut)))
legal-unshut m g r (grown {h} (Take c order v) legal f same) l =
    subst (λ g. is_shut g r ≡ false) (sym same)
    (shut-after h r (Take c order v) ∙ or-false (is_shut h r) ∙ legal-unshut m h r legal (subst (λ g. robots g ≤ r) same l))
legal-unshut m g r (grown {h} (Tick to arrived farewells) legal f same) l =
    subst (λ g. is_shut g r ≡ false) (sym same)
    (shut-after h r (Tick to arrived farewells) ∙ or-false (is_shut h r) ∙ legal-unshut m h r legal (subst (λ g. robots g ≤ r) same l))
legal-unshut m g r (grown {h} (Shut robot farewell) legal f same) l =
    subst (λ g. is_shut g r ≡ false) (sym same)
    (let past : robots h ≤ r = subst (λ g. robots g ≤ r) same l in
    shut-after h r (Shut robot farewell) ∙ rw (ne_eqb robot r (λ e. omega (arith, f.known))) (or-false (is_shut h r)) ∙ legal-unshut m h r legal past)

-- ---- accepted errands

pub no_accepted_close : (s : Standing) (f : Facts) (n : ℕ) → Accepted n ≡ verdict_of Close s f → ⊥
no_accepted_close s f n e = go s.closed e
  where
    go : (b : Bool) → Accepted n ≡ cond b ClientClosed Closed → ⊥
    go true e = cc
    go false e = cc

pub no_accepted_withdraw : (s : Standing) (f : Facts) (n k : ℕ) → Accepted n ≡ verdict_of (Withdraw k) s f → ⊥
no_accepted_withdraw s f n k e = go s.closed f.place e
  where
    go : (b : Bool) (p : Place) → Accepted n ≡ cond b ClientClosed (place_verdict p) → ⊥
    go true p e = cc
    go false Absent e = cc
    go false Front e = cc
    go false Behind e = cc

-- ---- numbers that may still grow

pub taken-small : {A : Type 0} (m : Floor) (h : History A) (c : ℕ) → IsLegal m h → c < clients h → length h.entries < 2 ^ 63 → taken_count h c < 2 ^ 63 + 2 ^ 58
taken-small m h c legal l few = omega (arith, few, ((legal-opening m h legal).clients c l).small, count_by-le-length (is_take_of c) h.entries)

pub noticed-small : {A : Type 0} (m : Floor) (h : History A) (c : ℕ) → IsLegal m h → c < clients h → length h.entries < 2 ^ 63 → noticed_count h c < 2 ^ 63 + 2 ^ 59
noticed-small m h c legal l few = let k = legal-counts m h c legal l in omega (arith, taken-small m h c legal l few, k.not_early, k.within_life, (legal-opening m h legal).life.1)
