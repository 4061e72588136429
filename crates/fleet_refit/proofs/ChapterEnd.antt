-- What the state at the end of a legal chapter has to do with the one that it began with.
use Rattle.std.proofs.Common.{◌≡◌, ◌∙◌, ◌+◌, ◌<◌, ◌≤◌, ◌⊎◌, ℕ, [], ◌∷◌, Some, not, ap, arith, inl, inr, refl, subst, sym, length, add-zero, cond, eqb}
use Rattle.std.specs.Prelude.{All, map, slice_get, slice_index_or}
use Rattle.std.proofs.lemmas.Bool.{cases_Bool, cases_lt, cond_both}
use Rattle.std.proofs.lemmas.List.{append-nil, get_or_past, length-map}
use Rattle.std.proofs.lemmas.List.Elements.{All-append, All-drop, All-filter, All-nil}
use Rattle.std.proofs.lemmas.Option.{slice_get-get_or}
use Rattle.fleet_grid.specs.Floor.{Floor}
use Rattle.fleet_queue.specs.declared.errand.Errand.{Errand}
use Rattle.fleet_book.specs.declared.order.Order.{Order}
use Rattle.fleet_book.specs.declared.order.Order.TheVariants.{Go, Close, Withdraw}
use Rattle.fleet_book.specs.declared.verdict.Verdict.{Verdict}
use Rattle.fleet_book.specs.declared.verdict.Verdict.TheVariants as verdict
use Rattle.fleet_history.specs.declared.history.ClientState.{ClientState}
use Rattle.fleet_history.specs.declared.history.Entry.{Entry}
use Rattle.fleet_history.specs.declared.history.Entry.TheVariants.{Take, Tick, Shut}
use Rattle.fleet_history.specs.declared.history.Opening.{Opening}
use Rattle.fleet_history.specs.declared.history.RobotState.{RobotState}
use Rattle.fleet_history.specs.History.{History, start, after, robots, client_at, taken_count, accepted_count, accepts, is_withdrawn, joined, accepted, arrivals, errand_for, errands_at, unfinished, unknown_client, owed}
use Rattle.fleet_history.specs.Legal.{IsLegal, opened, grown, owed_at}
use Rattle.fleet_history.specs.Next.{next_opening}
use Rattle.fleet_history.specs.Notices.{noticed_count}
use Rattle.fleet_history.specs.Verdicts.{IsVerdict}
use Rattle.fleet_history.proofs.After.{accepted_count-after, joined-after, noticed_count-after, taken_count-after}
use Rattle.fleet_history.proofs.Legal.{All-single}
use Rattle.fleet_history.proofs.Next.{next-client, next-clients, next-errands, next-owed, next-robots, owed-start}
use Rattle.fleet_history.proofs.Numbers.{All-slice_get, verdict-number}
use Rattle.fleet_history.proofs.Owed.{owed_more, owed-after_shut, owed-after_take, owed-after_tick}
use Rattle.fleet_refit.specs.After.{IsPlayed}
use Rattle.fleet_refit.specs.Map.{plan_map}
use Rattle.fleet_refit.specs.Opening.{opening_of}
use Rattle.fleet_refit.specs.Site.{SiteView}

abbrev pub client_of : {A : Type 0} → Opening A → ℕ → ClientState
client_of o c = slice_index_or o.clients c unknown_client

-- the second opening may be a later state of the first one's fleet
pub record IsLater {A : Type 0} (o p : Opening A) : Type 0 where
  pub tick : o.tick ≤ p.tick
  pub queue : p.queue ≡ o.queue
  pub robots : length p.robots ≡ length o.robots
  pub clients : length p.clients ≡ length o.clients
  pub more : (c : ℕ) → c < length o.clients → (client_of o c).accepted ≤ (client_of p c).accepted
  -- no client was told of more than was taken and accepted, and owed before
  pub told : (c : ℕ) → c < length o.clients →
      (client_of p c).noticed + owed_at p c + ((client_of o c).taken + (client_of o c).accepted) ≤ (client_of p c).taken + (client_of p c).accepted + ((client_of o c).noticed + owed_at o c)
  -- an errand was its robot's before, or has a number that its client had not reached
  pub names : (k i : ℕ) (x : Errand) → slice_get (errands_at p k) i ≡ Some x → ((j : ℕ) × (slice_get (errands_at o k) j ≡ Some x)) ⊎ ((client_of o x.client).accepted < x.number)

-- ---- counts

-- what a verdict makes is accepted
more-accepts : (A : Type 0) (c client : ℕ) (order : Order) (v : Verdict) → owed_more c client order v ≤ cond (accepts {A = A} c (Take client order v)) 1 0
more-accepts A c client (Go robot cell) (verdict.Accepted n) = elim (cases_Bool (eqb client c)) [ inl e ↦ rw (e) (omega arith) | inr e ↦ rw (e) (omega arith) ]
more-accepts A c client order v = omega arith

-- as the counts are, so many more may be told
abbrev pub Slack : {A : Type 0} → History A → ℕ → Type 0
Slack h c = noticed_count h c + owed h c + ((client_at h c).taken + (client_at h c).accepted) ≤ taken_count h c + accepted_count h c + ((client_at h c).noticed + owed_at h.opening c)

-- nothing happened
slack-start : (n o t a first : ℕ) → o ≡ first → (n + 0) + o + (t + a) ≤ (t + 0) + (a + 0) + (n + first)
slack-start n o t a first is = omega (arith, is)

-- an order is taken
slack-take : (n o t a n2 o2 t2 a2 base limit one less more acc : ℕ) → n + o + base ≤ t + a + limit → t2 ≡ t + one → a2 ≡ a + acc → n2 ≡ n + one → o2 + less ≡ o + more → more ≤ acc → n2 + o2 + base ≤ t2 + a2 + limit
slack-take n o t a n2 o2 t2 a2 base limit one less more acc before et ea en eo few = omega (arith, before, et, ea, en, eo, few)

-- errands arrive, or nothing changes
slack-tick : (n o t a n2 o2 t2 a2 base limit k : ℕ) → n + o + base ≤ t + a + limit → t2 ≡ t + 0 → a2 ≡ a + 0 → n2 ≡ n + k → o2 + k ≡ o → n2 + o2 + base ≤ t2 + a2 + limit
slack-tick n o t a n2 o2 t2 a2 base limit k before et ea en eo = omega (arith, before, et, ea, en, eo)

pub slack : {A : Type 0} (m : Floor) (h : History A) (c : ℕ) → IsLegal m h → Slack h c
slack m h c (opened {o} i) = slack-start (client_of o c).noticed (owed (start o) c) (client_of o c).taken (client_of o c).accepted (owed_at o c) (owed-start o c)
slack {A} m g c (grown {h} (Take client order v) legal f same) =
    subst (λ (k : History A). Slack k c) (sym same)
    (let e : Entry A = Take client order v in
    slack-take _ _ _ _ _ _ _ _ _ _ _ _ _ _ (slack m h c legal) (taken_count-after h c e) (accepted_count-after h c e) (noticed_count-after h c e) (owed-after_take m h c client order v legal f.1) (more-accepts A c client order v))
slack {A} m g c (grown {h} (Tick to arrived farewells) legal f same) =
    subst (λ (k : History A). Slack k c) (sym same)
    (let e : Entry A = Tick to arrived farewells in
    slack-tick _ _ _ _ _ _ _ _ _ _ _ (slack m h c legal) (taken_count-after h c e) (accepted_count-after h c e) (noticed_count-after h c e) (owed-after_tick h c to arrived farewells f.shows))
slack {A} m g c (grown {h} (Shut robot farewell) legal f same) =
    subst (λ (k : History A). Slack k c) (sym same)
    (let e : Entry A = Shut robot farewell in
    slack-tick _ _ _ _ _ _ _ _ _ _ 0 (slack m h c legal) (taken_count-after h c e) (accepted_count-after h c e) (noticed_count-after h c e) (add-zero (owed (after h e) c) ∙ owed-after_shut h c robot farewell))

-- ---- names

-- an errand is among these, or has a number that its client had not reached
abbrev pub IsNamed : {A : Type 0} → Opening A → ℕ → Errand → Type 0
IsNamed o r x = ((j : ℕ) × (slice_get (errands_at o r) j ≡ Some x)) ⊎ ((client_of o x.client).accepted < x.number)

named-by : {A : Type 0} (m : Floor) (h : History A) (c r : ℕ) (order : Order) (v : Verdict) → IsVerdict m h c order v → All (IsNamed h.opening r) (errand_for r c order v)
named-by m h c r (Go robot cell) (verdict.Accepted n) is =
    let next = verdict-number m h c n robot cell is in
    let x : Errand = record { client = c; number = n; cell = cell } in
    cond_both (eqb robot r) (x ∷ []) [] (All (IsNamed h.opening r)) (λ t. All-single (IsNamed h.opening r) x (inr (omega (arith, next)))) (λ t. All-nil (IsNamed h.opening r))
named-by m h c r (Go robot cell) v is = All-nil (IsNamed h.opening r)
named-by m h c r Close v is = All-nil (IsNamed h.opening r)
named-by m h c r (Withdraw number) v is = All-nil (IsNamed h.opening r)

pub joined-named : {A : Type 0} (m : Floor) (h : History A) (r : ℕ) → IsLegal m h → All (IsNamed h.opening r) (joined h r)
joined-named m h r (opened {o} i) = rw (append-nil (errands_at o r)) (λ k d l. inl (k, slice_get-get_or (errands_at o r) k d l))
joined-named {A} m g r (grown {h} (Take c order v) legal f same) =
    subst (λ (k : History A). All (IsNamed k.opening r) (joined k r)) (sym same)
    (rw (joined-after h r (Take c order v)) (All-append (IsNamed h.opening r) (joined h r) (errand_for r c order v) (joined-named m h r legal) (named-by m h c r order v f.1)))
joined-named {A} m g r (grown {h} (Tick to arrived farewells) legal f same) =
    subst (λ (k : History A). All (IsNamed k.opening r) (joined k r)) (sym same)
    (rw (joined-after h r (Tick to arrived farewells), append-nil (joined h r)) (joined-named m h r legal))
joined-named {A} m g r (grown {h} (Shut robot farewell) legal f same) =
    subst (λ (k : History A). All (IsNamed k.opening r) (joined k r)) (sym same)
    (rw (joined-after h r (Shut robot farewell), append-nil (joined h r)) (joined-named m h r legal))

unfinished-named : {A : Type 0} (m : Floor) (h : History A) (r : ℕ) → IsLegal m h → All (IsNamed h.opening r) (unfinished h r)
unfinished-named m h r legal =
    All-drop (IsNamed h.opening r) (length (arrivals h r)) (accepted h r) (All-filter (λ x. not (is_withdrawn h x)) (IsNamed h.opening r) (joined h r) (joined-named m h r legal))

next-named : {A : Type 0} (m : Floor) (h : History A) → IsLegal m h → (k i : ℕ) (x : Errand) → slice_get (errands_at (next_opening h) k) i ≡ Some x → IsNamed h.opening k x
next-named {A} m h legal k i x at = elim (cases_lt k (robots h)) [
  | inl inside ↦ All-slice_get (IsNamed h.opening k) (unfinished h k) x i (unfinished-named m h k legal) (subst (λ l. slice_get l i ≡ Some x) (next-errands h k inside) at)
  | inr past ↦ absurd (
      let many = length-map (next_opening h).robots (λ (y : RobotState A). y.errands) in
      let none : errands_at (next_opening h) k ≡ [] = get_or_past (map (λ (y : RobotState A). y.errands) (next_opening h).robots) k [] (omega (arith, past, many, next-robots h)) in
      let q : slice_get {X = Errand} [] i ≡ Some x = subst (λ l. slice_get l i ≡ Some x) none at in cc)
]

-- ---- the end of a chapter

pub end-later : {A : Type 0} (m : Floor) (h : History A) → IsLegal m h → IsLater h.opening (next_opening h)
end-later {A} m h legal = record {
  tick = omega arith;
  queue = refl;
  robots = next-robots h;
  clients = next-clients h;
  more = λ c inside. omega (arith, ap (λ (s : ClientState). s.accepted) (next-client h c inside));
  told = λ c inside.
      let is = next-client h c inside in
      omega (
        arith,
        slack m h c legal,
        ap (λ (s : ClientState). s.accepted) is,
        ap (λ (s : ClientState). s.taken) is,
        ap (λ (s : ClientState). s.noticed) is,
        next-owed h c,
      );
  names = next-named m h legal;
}

pub played-later : {A : Type 0} (s : SiteView A) (o : Opening A) → IsPlayed s o → IsLater (opening_of s) o
played-later {A} s o played =
    subst (λ (p : Opening A). IsLater (opening_of s) p) (sym played.ends)
    (subst (λ (p : Opening A). IsLater p (next_opening played.history)) played.begins (end-later (plan_map s) played.history played.legal))
