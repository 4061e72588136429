-- The state after one more entry.
use Rattle.std.proofs.Common.{◌≡◌, ℕ, ◌+◌, ◌<◌, List, length, map, Bool, true, false, Option, None, sym, refl, ap, ◌∙◌, subst, arith, inl, inr, get_or, add-zero}
use Rattle.std.specs.Prelude.{slice_set, slice_index, slice_index_or, count_by, ◌==◌}
use Rattle.std.specs.List.{range_with_len}
use Rattle.std.proofs.lemmas.List.{length-set, get_or-set_same, get_or-set_other}
use Rattle.std.proofs.lemmas.Bool.{eq-eqb, ne_eqb, cases_eq}
use Rattle.std.proofs.Math.Bool.{or-false}
use Rattle.fleet_grid.specs.Floor.{Floor}
use Rattle.fleet_queue.specs.Queue.{Queue}
use Rattle.fleet_book.specs.declared.account.Account.{Account}
use Rattle.fleet_book.specs.declared.order.Order.{Order}
use Rattle.fleet_book.specs.declared.verdict.Verdict.{Verdict}
use Rattle.fleet_book.specs.Counts.{account_of, entered, blank}
use Rattle.fleet_history.specs.declared.history.Arrival.{Arrival}
use Rattle.fleet_history.specs.declared.history.Bye.{Bye}
use Rattle.fleet_history.specs.declared.history.Entry.{Entry}
use Rattle.fleet_history.specs.declared.history.Entry.TheVariants as entry
use Rattle.fleet_history.specs.History.{History, after, robots, clients, clock, unfinished, errand_for, is_shut}
use Rattle.fleet_history.specs.Verdicts.{IsVerdict}
use Rattle.fleet_history.specs.Legal.{grown, IsShutAfter, IsTickAfter}
use Rattle.fleet_history.specs.Waits.{wait}
use Rattle.fleet_history.specs.Waited.{wait_taken}
use Rattle.fleet_history.proofs.After.{place-after, clock-after, shut-after}
use Rattle.fleet_history.proofs.Arrivals.{unfinished-after_take, unfinished-after_tick, unfinished-after_shut}
use Rattle.fleet_history.proofs.WaitLaws.{wait-after_tick, wait-after_take, wait-shut}
use Rattle.fleet_state.specs.declared.clients.Tally.{Tally}
use Rattle.fleet_state.specs.Clients.{Clients, tally_at, no_tally, settled, told, one_taken, with_verdict}
use Rattle.fleet_state.specs.inside.Due.{dues_of}
use Rattle.fleet_state.specs.Landed.{without_landed, wait_on}
use Rattle.fleet_state.specs.Robots.{Robots, no_queue, queue_taken, AreTaken}
use Rattle.fleet_state.specs.State.{State, IsStateOf, queue_after, account_after, tally_after, robots_of, clients_of, state_with}
use Rattle.fleet_state.proofs.Parts.{listed, same-by, cell-count, cells-of, queues-of, waits-of, accounts-of, shut-of, tallies-of, queue-count, wait-count, shut-count, account-count, tally-count, queue-of, account-of, tally-of, wait-of, shut-at, queue-limit}
use Rattle.fleet_state.proofs.Dues.{rest-is, wait-on-is, dues_of-are, to-count}
use Rattle.fleet_state.proofs.Steps.{AreStepped, AreArrived, stepped-cells}
use Rattle.fleet_state.proofs.Accounts.{account-take_same, account-take_other, tally-take_same, tally-take_other, account-shut, tally-shut, account-tick, tally-tick, or-true}

-- states of the same parts are the same
pub state-same : {A : Type 0} {a a' : List ℕ} {b b' : List Queue} {c c' : List (Option ℕ)} {d d' : List Account} {e e' : List Bool} {f f' : ℕ} {t t' : List Tally} {q q' : ℕ} {n n' : ℕ} (rooms : List ℕ) →
    a ≡ a' → b ≡ b' → c ≡ c' → d ≡ d' → e ≡ e' → f ≡ f' → t ≡ t' → q ≡ q' → n ≡ n' →
    ◌≡◌ {A = State A}
    (record { cells = a; queues = b; waits = c; counts = record { accounts = d; shut = e; life = f }; tallies = t; queue = q; rooms = rooms; tick = n })
    (record { cells = a'; queues = b'; waits = c'; counts = record { accounts = d'; shut = e'; life = f' }; tallies = t'; queue = q'; rooms = rooms; tick = n' })
state-same rooms a b c d e f t q n = rw (a, b, c, d, e, f, t, q, n) refl

-- a list with one new item, by its items
pub set-by : {X : Type 0} (d : X) (n i : ℕ) (x : X) (g : ℕ → X) (xs : List X) → length xs ≡ n → i < n → x ≡ g i → ((j : ℕ) → j < n → (i ≡ j → ⊥) → get_or xs j d ≡ g j) →
    slice_set xs i x ≡ map g (range_with_len 0 n)
set-by d n i x g xs count l here each =
    listed d n g (slice_set xs i x) (length-set xs i x ∙ count)
    (λ j m. elim (cases_eq i j) [
      | inl e ↦ subst (λ k. get_or (slice_set xs i x) k d ≡ g k) e (get_or-set_same xs i x d (omega arith) ∙ here)
      | inr ne ↦ get_or-set_other xs i j x d (λ e. ne (sym e)) ∙ each j m ne
    ])

pub life-of : {A : Type 0} {m : Floor} {h : History A} {s : State A} → IsStateOf m h s → s.counts.life ≡ h.opening.life
life-of {A = A} k = ap (λ (s : State A). s.counts.life) k.is

pub tick-of : {A : Type 0} {m : Floor} {h : History A} {s : State A} → IsStateOf m h s → s.tick ≡ clock h
tick-of {A = A} k = ap (λ (s : State A). s.tick) k.is

module _ {A : Type 0} {m : Floor} {h : History A} {s : State A} (k : IsStateOf m h s) where
  pub taken-is : (c : ℕ) (order : Order) (v : Verdict) (x : Robots) → c < clients h → IsVerdict m h c order v → AreTaken c order v (robots_of s) x →
      IsStateOf m (after h (entry.Take c order v)) (state_with x (with_verdict (clients_of s) c v) s.queue s.rooms s.tick)
  taken-is c order v x l is taken =
      let e : Entry A = entry.Take c order v in
      let g : History A = after h e in
      record {
        legal = grown e k.legal (l, is) refl;
        is = state-same s.rooms
            (taken.cells ∙ cells-of k ∙ sym (place-after h e))
            (listed no_queue (robots h) (queue_after s.rooms g) x.queues (taken.queue_count ∙ queue-count k)
            (λ r i. taken.queues r (omega (arith, i, queue-count k)) ∙ ap (queue_taken r c order v) (queue-of k r i)
            ∙ ap (λ u. record { items = u; capacity = slice_index s.rooms r }) (sym (unfinished-after_take m h c order v r k.legal is i))))
            (listed None (robots h) (wait g) x.waits (taken.wait_count ∙ wait-count k)
            (λ r i. taken.waits r (omega (arith, i, wait-count k)) ∙ ap (wait_taken (errand_for r c order v)) (wait-of k r i) ∙ sym (wait-after_take m h c order v r k.legal is i)))
            (set-by blank (clients h) c (entered v (account_of s.counts c)) (account_after g) s.counts.accounts (account-count k) l
            (ap (entered v) (account-of k c l) ∙ sym (account-take_same m h c order v k.legal is))
            (λ j i ne. account-of k j i ∙ sym (account-take_other m h j c order v k.legal is ne)))
            (shut-of k ∙ same-by false (robots h) (is_shut h) (is_shut g) (λ r i. sym (shut-after h r e ∙ or-false (is_shut h r))))
            (life-of k)
            (set-by no_tally (clients h) c (one_taken (tally_at s.tallies c)) (tally_after g) s.tallies (tally-count k) l
            (ap one_taken (tally-of k c l) ∙ sym (tally-take_same h c order v))
            (λ j i ne. tally-of k j i ∙ sym (tally-take_other h j c order v ne)))
            (queue-limit k)
            (tick-of k ∙ sym (clock-after h e ∙ add-zero (clock h)));
      }

  pub shut-is : (robot : ℕ) (farewell : Option ℕ) → IsShutAfter h robot farewell →
      IsStateOf m (after h (entry.Shut robot farewell))
      (record { cells = s.cells; queues = s.queues; waits = s.waits; counts = record { accounts = s.counts.accounts; shut = slice_set s.counts.shut robot true; life = s.counts.life }; tallies = s.tallies; queue = s.queue; rooms = s.rooms; tick = s.tick })
  shut-is robot farewell fits =
      let e : Entry A = entry.Shut robot farewell in
      let g : History A = after h e in
      record {
        legal = grown e k.legal fits refl;
        is = state-same s.rooms
            (cells-of k ∙ sym (place-after h e))
            (queues-of k ∙ same-by no_queue (robots h) (queue_after s.rooms h) (queue_after s.rooms g) (λ r i. ap (λ u. record { items = u; capacity = slice_index s.rooms r }) (sym (unfinished-after_shut h robot farewell r))))
            (waits-of k ∙ same-by None (robots h) (wait h) (wait g) (λ r i. sym (wait-shut h robot farewell r)))
            (accounts-of k ∙ same-by blank (clients h) (account_after h) (account_after g) (λ c i. sym (account-shut h c robot farewell)))
            (set-by false (robots h) robot true (is_shut g) s.counts.shut (shut-count k) fits.known
            (sym (shut-after h robot e ∙ rw (eq-eqb robot robot refl) (or-true (is_shut h robot))))
            (λ r i ne. shut-at k r i ∙ sym (shut-after h r e ∙ rw (ne_eqb robot r ne) (or-false (is_shut h r)))))
            (life-of k)
            (tallies-of k ∙ same-by no_tally (clients h) (tally_after h) (tally_after g) (λ c i. sym (tally-shut h c robot farewell)))
            (queue-limit k)
            (tick-of k ∙ sym (clock-after h e ∙ add-zero (clock h)));
      }

  pub ticked-is : (to : List ℕ) (arrived : List Arrival) (farewells : List Bye) (x : Robots) (y : Clients) → IsTickAfter m h to arrived farewells →
      AreStepped to (length to) (robots_of s) x → AreArrived s.queues to (length to) (clients_of s) y →
      IsStateOf m (after h (entry.Tick to arrived farewells)) (state_with x y s.queue s.rooms (s.tick + 1))
  ticked-is to arrived farewells x y fits steps arrive =
      let e : Entry A = entry.Tick to arrived farewells in
      let g : History A = after h e in
      let many = to-count k to fits in
      record {
        legal = grown e k.legal fits refl;
        is = state-same s.rooms
            (stepped-cells to (robots_of s) x steps (omega (arith, cell-count k, queue-count k)) ∙ sym (place-after h e))
            (listed no_queue (robots h) (queue_after s.rooms g) x.queues (steps.queue_count ∙ queue-count k)
            (λ r i. steps.before r (omega (arith, i, queue-count k)) ∙ ap (without_landed (slice_index to r)) (queue-of k r i)
            ∙ ap (λ u. record { items = u; capacity = slice_index s.rooms r }) (rest-is to r (unfinished h r) ∙ sym (unfinished-after_tick h to arrived farewells r i fits.shows))))
            (listed None (robots h) (wait g) x.waits (steps.wait_count ∙ wait-count k)
            (λ r i. steps.waited r (omega (arith, i, queue-count k)) ∙ ap (λ (q : Queue). wait_on (slice_index to r) q.items (slice_index_or s.waits r None)) (queue-of k r i)
            ∙ ap (wait_on (slice_index to r) (unfinished h r)) (wait-of k r i) ∙ wait-on-is h to r ∙ sym (wait-after_tick h to arrived farewells r i fits.shows)))
            (listed blank (clients h) (account_after g) y.counts.accounts (arrive.count ∙ account-count k)
            (λ c i. arrive.accounts c (omega (arith, i, account-count k)) ∙ ap (λ a. settled a (dues_of s.queues to (length to) c)) (account-of k c i)
            ∙ ap (settled (account_after h c)) (counted c) ∙ sym (account-tick h c to arrived farewells fits.shows)))
            (arrive.shut ∙ shut-of k ∙ same-by false (robots h) (is_shut h) (is_shut g) (λ r i. sym (shut-after h r e ∙ or-false (is_shut h r))))
            (arrive.life ∙ life-of k)
            (listed no_tally (clients h) (tally_after g) y.tallies (arrive.tally_count ∙ tally-count k)
            (λ c i. arrive.tallies c (omega (arith, i, account-count k)) ∙ ap (λ t. told t (dues_of s.queues to (length to) c)) (tally-of k c i)
            ∙ ap (told (tally_after h c)) (counted c) ∙ sym (tally-tick h c to arrived farewells)))
            (queue-limit k)
            (ap (λ n. n + 1) (tick-of k) ∙ sym (clock-after h e));
      }
    where
      counted : (c : ℕ) → dues_of s.queues to (length to) c ≡ count_by (λ a. a.client == c) arrived
      counted c = ap (λ n. dues_of s.queues to n c) (to-count k to fits) ∙ dues_of-are k to arrived c fits.shows
