-- The parts of a state, by its history.
use Rattle.std.proofs.Common.{◌≡◌, ℕ, ◌<◌, ◌≤◌, List, None, false, length, map, sym, ap, ◌∙◌, subst, arith, get_or}
use Rattle.std.specs.List.{range_with_len}
use Rattle.std.proofs.lemmas.List.{length-map, get_or-map, ext_get_or}
use Rattle.std.proofs.lemmas.List.FromFn.{length-range_with_len, get_or-range_with_len}
use Rattle.std.proofs.lemmas.Simd.{map-map}
use Rattle.fleet_grid.specs.Floor.{Floor}
use Rattle.fleet_queue.specs.Queue.{Queue}
use Rattle.fleet_history.specs.History.{History, place, robots, clients, unfinished, is_shut}
use Rattle.fleet_history.specs.Waits.{wait}
use Rattle.fleet_history.proofs.Legal.{length-place, legal-opening}
use Rattle.fleet_book.specs.Counts.{account_of, blank}
use Rattle.fleet_state.specs.Clients.{tally_at, no_tally}
use Rattle.fleet_state.specs.Robots.{queue_at, no_queue}
use Rattle.fleet_state.specs.State.{State, IsStateOf, by_robot, by_client, queue_after, account_after, tally_after}

-- ---- lists by number

pub length-by : {X : Type 0} (f : ℕ → X) (n : ℕ) → length (map f (range_with_len 0 n)) ≡ n
length-by f n = length-map (range_with_len 0 n) f ∙ length-range_with_len 0 n

pub item-by : {X : Type 0} (f : ℕ → X) (n r : ℕ) (d : X) → r < n → get_or (map f (range_with_len 0 n)) r d ≡ f r
item-by f n r d l = get_or-map f (range_with_len 0 n) r 0 d (omega (arith, length-range_with_len 0 n)) ∙ ap f (get_or-range_with_len 0 n r 0 l ∙ omega arith)

-- a list is known by its items
pub listed : {X : Type 0} (d : X) (n : ℕ) (f : ℕ → X) (xs : List X) → length xs ≡ n → ((r : ℕ) → r < n → get_or xs r d ≡ f r) → xs ≡ map f (range_with_len 0 n)
listed d n f xs count each =
    ext_get_or d xs (map f (range_with_len 0 n)) (count ∙ sym (length-by f n)) (λ r l. each r (omega arith) ∙ sym (item-by f n r d (omega arith)))

pub same-by : {X : Type 0} (d : X) (n : ℕ) (f g : ℕ → X) → ((r : ℕ) → r < n → f r ≡ g r) → map f (range_with_len 0 n) ≡ map g (range_with_len 0 n)
same-by d n f g each = listed d n g (map f (range_with_len 0 n)) (length-by f n) (λ r l. item-by f n r d l ∙ each r l)

-- ---- the parts

module _ {A : Type 0} {m : Floor} {h : History A} {s : State A} (k : IsStateOf m h s) where
  pub cells-of : s.cells ≡ place h
  cells-of = ap (λ (s : State A). s.cells) k.is

  pub queues-of : s.queues ≡ by_robot h (queue_after s.rooms h)
  queues-of = ap (λ (s : State A). s.queues) k.is

  pub waits-of : s.waits ≡ by_robot h (wait h)
  waits-of = ap (λ (s : State A). s.waits) k.is

  pub accounts-of : s.counts.accounts ≡ by_client h (account_after h)
  accounts-of = ap (λ (s : State A). s.counts.accounts) k.is

  pub shut-of : s.counts.shut ≡ by_robot h (is_shut h)
  shut-of = ap (λ (s : State A). s.counts.shut) k.is

  pub tallies-of : s.tallies ≡ by_client h (tally_after h)
  tallies-of = ap (λ (s : State A). s.tallies) k.is

  pub cell-count : length s.cells ≡ robots h
  cell-count = ap length cells-of ∙ length-place m h k.legal

  pub queue-count : length s.queues ≡ robots h
  queue-count = ap length queues-of ∙ length-by (queue_after s.rooms h) (robots h)

  pub wait-count : length s.waits ≡ robots h
  wait-count = ap length waits-of ∙ length-by (wait h) (robots h)

  pub shut-count : length s.counts.shut ≡ robots h
  shut-count = ap length shut-of ∙ length-by (is_shut h) (robots h)

  pub account-count : length s.counts.accounts ≡ clients h
  account-count = ap length accounts-of ∙ length-by (account_after h) (clients h)

  pub tally-count : length s.tallies ≡ clients h
  tally-count = ap length tallies-of ∙ length-by (tally_after h) (clients h)

  pub queue-of : (r : ℕ) → r < robots h → queue_at s.queues r ≡ queue_after s.rooms h r
  queue-of r l = ap (λ q. queue_at q r) queues-of ∙ item-by (queue_after s.rooms h) (robots h) r no_queue l

  pub items-of : map (λ (q : Queue). q.items) s.queues ≡ by_robot h (unfinished h)
  items-of = ap (λ (qs : List Queue). map (λ (q : Queue). q.items) qs) queues-of ∙ map-map (λ (q : Queue). q.items) (queue_after s.rooms h) (range_with_len 0 (robots h))

  pub account-of : (c : ℕ) → c < clients h → account_of s.counts c ≡ account_after h c
  account-of c l = ap (λ a. get_or a c blank) accounts-of ∙ item-by (account_after h) (clients h) c blank l

  pub tally-of : (c : ℕ) → c < clients h → tally_at s.tallies c ≡ tally_after h c
  tally-of c l = ap (λ t. tally_at t c) tallies-of ∙ item-by (tally_after h) (clients h) c no_tally l

  pub wait-of : (r : ℕ) → r < robots h → get_or s.waits r None ≡ wait h r
  wait-of r l = ap (λ w. get_or w r None) waits-of ∙ item-by (wait h) (robots h) r None l

  pub shut-at : (r : ℕ) → r < robots h → get_or s.counts.shut r false ≡ is_shut h r
  shut-at r l = ap (λ w. get_or w r false) shut-of ∙ item-by (is_shut h) (robots h) r false l

-- the same of the fields
pub inside : {A : Type 0} {m : Floor} {h : History A} {s t : State A} → t ≡ s → IsStateOf m h s → IsStateOf m h t
inside {m = m} {h = h} e k = subst (λ x. IsStateOf m h x) (sym e) k

pub cells-in : {A : Type 0} {s t : State A} → t ≡ s → t.cells ≡ s.cells
cells-in {A = A} e = ap (λ (s : State A). s.cells) e

pub queues-in : {A : Type 0} {s t : State A} → t ≡ s → t.queues ≡ s.queues
queues-in {A = A} e = ap (λ (s : State A). s.queues) e

pub tick-in : {A : Type 0} {s t : State A} → t ≡ s → t.tick ≡ s.tick
tick-in {A = A} e = ap (λ (s : State A). s.tick) e

pub queue-limit : {A : Type 0} {m : Floor} {h : History A} {s : State A} → IsStateOf m h s → s.queue ≡ h.opening.queue
queue-limit {A = A} k = ap (λ (s : State A). s.queue) k.is

pub robots-few : {A : Type 0} {m : Floor} {h : History A} {s : State A} → IsStateOf m h s → length s.queues ≤ 512
robots-few {m = m} {h = h} k = omega (arith, queue-count k, (legal-opening m h k.legal).few_robots)

pub clients-few : {A : Type 0} {m : Floor} {h : History A} {s : State A} → IsStateOf m h s → length s.tallies ≤ 64
clients-few {m = m} {h = h} k = omega (arith, tally-count k, (legal-opening m h k.legal).few_clients)
