-- Who lands and who leaves in a tick, robot by robot.
use Rattle.std.proofs.Common.{◌≡◌, ℕ, zero, suc, ◌+◌, ◌-◌, ◌^◌, ◌<◌, ◌≤◌, List, [], ◌∷◌, ◌++◌, length, map, drop, cond, eqb, Bool, true, false, ◌&&◌, not, Option, Some, None, sym, refl, ap, ◌∙◌, subst, arith, inl, inr, zero-add, add-zero}
use Rattle.std.specs.Prelude.{slice_get, slice_index, slice_index_or, count_by, ◌==◌}
use Rattle.std.specs.List.{flat_map, range_with_len}
use Rattle.std.proofs.lemmas.List.{get_or_past}
use Rattle.std.proofs.lemmas.List.Sums.{sum_by-cons, sum_by-append}
use Rattle.std.proofs.lemmas.Bool.{cases_Bool, cases_lt, eq-eqb}
use Rattle.std.proofs.Math.Bool.{or-false}
use Rattle.fleet_grid.specs.Floor.{Floor}
use Rattle.fleet_queue.specs.declared.errand.Errand.{Errand}
use Rattle.fleet_queue.specs.Queue.{Queue}
use Rattle.fleet_book.specs.declared.account.Account.{Account}
use Rattle.fleet_book.specs.Counts.{account_of}
use Rattle.fleet_history.specs.declared.history.Arrival.{Arrival}
use Rattle.fleet_history.specs.declared.history.Bye.{Bye}
use Rattle.fleet_history.specs.declared.history.Entry.{Entry}
use Rattle.fleet_history.specs.declared.history.Entry.TheVariants as entry
use Rattle.fleet_history.specs.History.{History, after, robots, clients, clock, unfinished, front, is_shut}
use Rattle.fleet_history.specs.inside.Landing.{landed}
use Rattle.fleet_history.specs.Legal.{Due, due_of, due_at, due, is_none_left, robot_if, leaving, is_leaving, IsTickAfter}
use Rattle.fleet_history.specs.Waits.{wait, wait_for}
use Rattle.fleet_history.specs.Waited.{wait_ticked}
use Rattle.fleet_history.proofs.After.{shut-after}
use Rattle.fleet_history.proofs.Counts.{legal-counts}
use Rattle.fleet_history.proofs.InOrder.{wait-within}
use Rattle.fleet_history.proofs.Legal.{head_all, legal-known_unfinished, legal-opening, length-place}
use Rattle.fleet_history.proofs.Owed.{owed-after_tick}
use Rattle.fleet_history.proofs.Arrivals.{unfinished-after_tick}
use Rattle.fleet_state.specs.declared.clients.Tally.{Tally}
use Rattle.fleet_state.specs.Clients.{tally_at}
use Rattle.fleet_state.specs.inside.Due.{dues, dues_of, is_leaver, leavers}
use Rattle.fleet_state.specs.Landed.{landing, wait_on, is_last, rest_on}
use Rattle.fleet_state.specs.Robots.{queue_at}
use Rattle.fleet_state.specs.State.{State, IsStateOf}
use Rattle.fleet_state.proofs.Parts.{queue-count, queue-of, shut-at, account-count, account-of, tally-of, wait-count, wait-of}
use Rattle.fleet_state.proofs.Laws.{taken-small}
use Rattle.fleet_state.proofs.Ranges.{flat_map-range_more}

-- ---- one robot

abbrev pub due_if : ℕ → Option Errand → List Due
due_if r None = []
due_if r (Some f) = record { robot = r; client = f.client; number = f.number } ∷ []

due-landing : (to : List ℕ) (r : ℕ) (u : List Errand) → due_at to r (slice_get u 0) ≡ due_if r (landing (slice_index to r) u)
due-landing to r [] = refl
due-landing to r (f ∷ u) = elim (cases_Bool (eqb f.cell (slice_index to r))) [ inl e ↦ rw e refl | inr e ↦ rw e refl ]

-- who lands has the errand in front
landing-front : (cell : ℕ) (u : List Errand) (f : Errand) → Some f ≡ landing cell u → slice_get u 0 ≡ Some f
landing-front cell [] f e = cc
landing-front cell (x ∷ u) f e = by_case (eqb x.cell cell) e
  where
    by_case : (b : Bool) → Some f ≡ cond b (Some x) None → Some x ≡ Some f
    by_case true q = sym q
    by_case false q = cc

-- what is left is what the history leaves
pub rest-is : (to : List ℕ) (r : ℕ) (u : List Errand) → rest_on (slice_index to r) u ≡ drop (length (landed to r (slice_get u 0))) u
rest-is to r [] = refl
rest-is to r (f ∷ u) = elim (cases_Bool (eqb f.cell (slice_index to r))) [ inl e ↦ rw e refl | inr e ↦ rw e refl ]

pub wait-on-is : {A : Type 0} (h : History A) (to : List ℕ) (r : ℕ) → wait_on (slice_index to r) (unfinished h r) (wait h r) ≡ wait_ticked to r (unfinished h r) (wait h r)
wait-on-is h to r = go (unfinished h r) (wait h r) (λ e. ap (λ u. wait_for h r (slice_get u 0)) e)
  where
    go : (u : List Errand) (w : Option ℕ) → (u ≡ [] → w ≡ None) → wait_on (slice_index to r) u w ≡ wait_ticked to r u w
    go [] w none = rw (none refl) refl
    go (f ∷ u) w none = refl

-- ---- several robots

pub dues-more : (queues : List Queue) (to : List ℕ) (r : ℕ) → dues queues to (r + 1) ≡ dues queues to r ++ due_if r (landing (slice_index to r) (queue_at queues r).items)
dues-more queues to r =
    flat_map-range_more (λ r. due_at to r (slice_get (queue_at queues r).items 0)) r ∙ ap (λ t. dues queues to r ++ t) (due-landing to r (queue_at queues r).items)

abbrev pub one_of : ℕ → Option Errand → ℕ
one_of c None = 0
one_of c (Some f) = cond (eqb f.client c) 1 0

one-of : (c r : ℕ) (o : Option Errand) → count_by (λ (d : Due). d.client == c) (due_if r o) ≡ one_of c o
one-of c r None = refl
one-of c r (Some f) = zero-add (cond (eqb f.client c) 1 0)

pub dues_of-more : (queues : List Queue) (to : List ℕ) (r c : ℕ) → dues_of queues to (r + 1) c ≡ dues_of queues to r c + one_of c (landing (slice_index to r) (queue_at queues r).items)
dues_of-more queues to r c =
    let o = landing (slice_index to r) (queue_at queues r).items in
    ap (count_by (λ (d : Due). d.client == c)) (dues-more queues to r)
    ∙ sum_by-append (λ (d : Due). cond (d.client == c) 1 0) (dues queues to r) (due_if r o)
    ∙ ap (λ n. dues_of queues to r c + n) (one-of c r o)

dues_of-le : (queues : List Queue) (to : List ℕ) (c r k : ℕ) → dues_of queues to r c ≤ dues_of queues to (r + k) c
dues_of-le queues to c r zero = rw add-zero (omega arith)
dues_of-le queues to c r (suc k) =
    let s : r + suc k ≡ r + k + 1 = omega arith in
    rw s (omega (arith, dues_of-le queues to c r k, dues_of-more queues to (r + k) c))

-- a client of whom one more lands is owed one more
pub owed-here : (queues : List Queue) (to : List ℕ) (r n : ℕ) (f : Errand) → r < n → Some f ≡ landing (slice_index to r) (queue_at queues r).items → dues_of queues to r f.client < dues_of queues to n f.client
owed-here queues to r n f l e =
    let more : dues_of queues to (r + 1) f.client ≡ dues_of queues to r f.client + 1 = dues_of-more queues to r f.client ∙ rw (← e, eq-eqb f.client f.client refl) refl in
    let s : r + 1 + (n - (r + 1)) ≡ n = omega arith in
    omega (arith, more, subst (λ k. dues_of queues to (r + 1) f.client ≤ dues_of queues to k f.client) s (dues_of-le queues to f.client (r + 1) (n - (r + 1))))

-- where nobody lands
pub none-more : (queues : List Queue) (to : List ℕ) (r c : ℕ) → None ≡ landing (slice_index to r) (queue_at queues r).items → dues_of queues to (r + 1) c ≡ dues_of queues to r c
none-more queues to r c e = dues_of-more queues to r c ∙ rw (← e) (add-zero (dues_of queues to r c))

-- ---- by the history

due_same_range : (to : List ℕ) (f g : ℕ → Option Errand) (a n : ℕ) → ((r : ℕ) → a ≤ r → r < a + n → f r ≡ g r) →
    flat_map (λ r. due_at to r (f r)) (range_with_len a n) ≡ flat_map (λ r. due_at to r (g r)) (range_with_len a n)
due_same_range to f g a zero same = refl
due_same_range to f g a (suc n) same =
    rw (same a (omega arith) (omega arith), due_same_range to f g (a + 1) n (λ r l u. same r (omega arith) (omega arith))) refl

leaving_same_range : (f g : ℕ → Bool) (a n : ℕ) → ((r : ℕ) → a ≤ r → r < a + n → f r ≡ g r) →
    flat_map (λ r. robot_if (f r) r) (range_with_len a n) ≡ flat_map (λ r. robot_if (g r) r) (range_with_len a n)
leaving_same_range f g a zero same = refl
leaving_same_range f g a (suc n) same =
    rw (same a (omega arith) (omega arith), leaving_same_range f g (a + 1) n (λ r l u. same r (omega arith) (omega arith))) refl

-- a shut robot is done for the first time where its last errand is
last_leaves : (shut : Bool) (to : List ℕ) (r : ℕ) (u : List Errand) →
    (shut && is_last (slice_index to r) u) ≡ (not (shut && is_none_left u) && (shut && is_none_left (drop (length (landed to r (slice_get u 0))) u)))
last_leaves true to r [] = refl
last_leaves false to r [] = refl
last_leaves true to r (f ∷ u) = elim (cases_Bool (eqb f.cell (slice_index to r))) [ inl e ↦ rw e refl | inr e ↦ rw e refl ]
last_leaves false to r (f ∷ u) = refl

count_map : (c : ℕ) (xs : List Arrival) → count_by (λ a. a.client == c) xs ≡ count_by (λ (d : Due). d.client == c) (map due_of xs)
count_map c [] = refl
count_map c (a ∷ xs) =
    sum_by-cons (λ (a : Arrival). cond (a.client == c) 1 0) a xs ∙ ap (λ n. cond (eqb a.client c) 1 0 + n) (count_map c xs)
    ∙ sym (sum_by-cons (λ (d : Due). cond (d.client == c) 1 0) (due_of a) (map due_of xs))

module _ {A : Type 0} {m : Floor} {h : History A} {s : State A} (k : IsStateOf m h s) (to : List ℕ) where
  pub dues-are : dues s.queues to (length s.queues) ≡ due h to
  dues-are =
      rw (queue-count k)
      (due_same_range to (λ r. slice_get (queue_at s.queues r).items 0) (front h) 0 (robots h) (λ r l u. ap (λ (q : Queue). slice_get q.items 0) (queue-of k r (omega arith))))

  -- as many land of a client as a tick shows of it
  pub dues_of-are : (arrived : List Arrival) (c : ℕ) → map due_of arrived ≡ due h to → dues_of s.queues to (length s.queues) c ≡ count_by (λ a. a.client == c) arrived
  dues_of-are arrived c shows = ap (count_by (λ (d : Due). d.client == c)) (dues-are ∙ sym shows) ∙ sym (count_map c arrived)

  pub leavers-are : (arrived : List Arrival) (farewells : List Bye) → map due_of arrived ≡ due h to →
      leavers s.counts s.queues to (length s.queues) ≡ leaving h (after h (entry.Tick to arrived farewells))
  leavers-are arrived farewells shows =
      let e : Entry A = entry.Tick to arrived farewells in
      rw (queue-count k)
      (leaving_same_range (is_leaver s.counts s.queues to) (is_leaving h (after h e)) 0 (robots h)
      (λ r l u.
      let items = ap (λ (q : Queue). q.items) (queue-of k r (omega arith)) in
      let left = unfinished-after_tick h to arrived farewells r (omega arith) shows in
      let shut : is_shut (after h e) r ≡ is_shut h r = shut-after h r e ∙ or-false (is_shut h r) in
      rw (shut-at k r (omega arith), items, left, shut) (last_leaves (is_shut h r) to r (unfinished h r))))

  -- what a tick that fits needs of a state
  pub to-count : {arrived : List Arrival} {farewells : List Bye} → IsTickAfter m h to arrived farewells → length to ≡ length s.queues
  to-count fits = fits.step.same_length ∙ length-place m h k.legal ∙ sym (queue-count k)

  front-known : (r : ℕ) (f : Errand) → r < length s.queues → slice_get (queue_at s.queues r).items 0 ≡ Some f → f.client < length s.counts.accounts
  front-known r f l e =
      let inside : r < robots h = omega (arith, queue-count k) in
      omega (
        arith,
        account-count k,
        head_all (λ (e : Errand). e.client < clients h) (unfinished h r) f (legal-known_unfinished m h r k.legal) (sym (ap (λ (q : Queue). slice_get q.items 0) (queue-of k r inside)) ∙ e),
      )

  -- the client of an errand that is finished is known
  pub landing-known : (r : ℕ) (f : Errand) → r < length s.queues → Some f ≡ landing (slice_index to r) (queue_at s.queues r).items → f.client < length s.counts.accounts
  landing-known r f l e = front-known r f l (landing-front (slice_index to r) (queue_at s.queues r).items f e)

  pub dues-owed : {arrived : List Arrival} {farewells : List Bye} → IsTickAfter m h to arrived farewells → (c : ℕ) → c < length s.counts.accounts → dues_of s.queues to (length s.queues) c ≤ (account_of s.counts c).owed
  dues-owed {arrived} {farewells} fits c l =
      omega (arith, dues_of-are arrived c fits.shows, owed-after_tick h c to arrived farewells fits.shows, ap (λ (a : Account). a.owed) (account-of k c (omega (arith, account-count k))))

  pub told-small : length h.entries < 2 ^ 63 → (c : ℕ) → c < length s.counts.accounts → (tally_at s.tallies c).noticed + (account_of s.counts c).owed < 2 ^ 64
  told-small few c l =
      let known : c < clients h = omega (arith, account-count k) in
      let counts = legal-counts m h c k.legal known in
      omega (
        arith,
        ap (λ (a : Account). a.owed) (account-of k c known),
        ap (λ (t : Tally). t.noticed) (tally-of k c known),
        counts.not_early,
        taken-small m h c k.legal known few,
        counts.within_life,
        (legal-opening m h k.legal).life.1,
      )

  pub waits-small : clock h < 2 ^ 63 → (r w : ℕ) → slice_index_or s.waits r None ≡ Some w → w + 1 < 2 ^ 64
  waits-small early r w e =
      elim (cases_lt r (robots h)) [
        | inl l ↦ omega (arith, wait-within m h r w k.legal l (sym (wait-of k r l) ∙ e))
        | inr l ↦ (let q : None ≡ Some w = sym (get_or_past s.waits r None (omega (arith, wait-count k))) ∙ e in cc)
      ]
