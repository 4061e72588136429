-- The opening of the next chapter, and the state that goes on through it.
use Rattle.std.proofs.Common.{◌≡◌, ℕ, ◌+◌, List, [], ◌∷◌, ◌++◌, Bool, length, map, Option, None, false, sym, refl, ap, ◌∙◌}
use Rattle.std.specs.Prelude.{slice_index, slice_index_or}
use Rattle.std.specs.List.{range_with_len}
use Rattle.fleet_grid.specs.Floor.{Floor}
use Rattle.fleet_book.specs.Counts.{is_shut, blank}
use Rattle.fleet_book.specs.declared.account.Account.{Account}
use Rattle.fleet_history.specs.declared.history.ClientState.{ClientState}
use Rattle.fleet_history.specs.declared.history.Opening.{Opening}
use Rattle.fleet_history.specs.declared.history.RobotState.{RobotState}
use Rattle.fleet_history.specs.History.{History, start, robots, clients, place, clock, unfinished}
use Rattle.fleet_history.specs.History as history
use Rattle.fleet_hooks.specs.declared.law.StampLaw.{StampLaw}
use Rattle.fleet_queue.specs.declared.errand.Errand.{Errand}
use Rattle.fleet_history.specs.Legal.{IsLegal, IsInOrder, arrival_law, farewell_law}
use Rattle.fleet_history.specs.Next.{robot_after, next_opening, HasRoomForCounts}
use Rattle.fleet_history.specs.Notices.{client_after}
use Rattle.fleet_history.specs.Waits.{wait}
use Rattle.fleet_history.proofs.InOrder.{next-legal}
use Rattle.fleet_history.proofs.Next.{next-robots, next-clients, start-place, start-clock, start-unfinished, start-wait, start-shut, start-taken, start-accepted, start-noticed, start-closed, start-owed}
use Rattle.fleet_state.specs.declared.clients.Tally.{Tally}
use Rattle.fleet_state.specs.Clients.{no_tally, client_known}
use Rattle.fleet_state.specs.Robots.{queue_at, no_queue}
use Rattle.fleet_state.specs.State.{State, IsStateOf, state_after, queue_after, account_after, tally_after, clients_of, state_with}
use Rattle.fleet_state.specs.inside.Next.{robot_known, opening_in}
use Rattle.fleet_state.specs.Opened.{robots_in, clients_in}
use Rattle.fleet_state.proofs.Accounts.{account_same}
use Rattle.fleet_state.proofs.Entered.{state-same}
use Rattle.fleet_state.proofs.Ranges.{map-range_more}
use Rattle.fleet_state.proofs.Opened.{opened-is, tally_same}
use Rattle.fleet_state.proofs.Parts.{same-by, cells-of, queue-count, tally-count, queue-of, account-of, tally-of, wait-of, shut-at}

-- ---- the opening

robot_same : {A : Type 0} {a a' : ℕ} {b b' : _} {c c' : Option ℕ} {d d' : _} (x : RobotState A) → a ≡ a' → b ≡ b' → c ≡ c' → d ≡ d' →
    ◌≡◌ {A = RobotState A}
    (record { cell = a; shut = b; wait = c; errands = d; arrival_law = x.arrival_law; farewell_law = x.farewell_law })
    (record { cell = a'; shut = b'; wait = c'; errands = d'; arrival_law = x.arrival_law; farewell_law = x.farewell_law })
robot_same x a b c d = rw (a, b, c, d) refl

client_same : {a a' b b' c c' : ℕ} {d d' : _} → a ≡ a' → b ≡ b' → c ≡ c' → d ≡ d' →
    ◌≡◌ {A = ClientState} (record { taken = a; accepted = b; noticed = c; closed = d }) (record { taken = a'; accepted = b'; noticed = c'; closed = d' })
client_same a b c d = rw (a, b, c, d) refl

unknown : {A : Type 0} (h : History A) → RobotState A
unknown h = robot_after h 0

module _ {A : Type 0} {m : Floor} {h : History A} {s : State A} (k : IsStateOf m h s) where
  robots-are : map (robot_known s h.opening) (range_with_len 0 (length s.queues)) ≡ map (robot_after h) (range_with_len 0 (robots h))
  robots-are =
      ap (λ n. map (robot_known s h.opening) (range_with_len 0 n)) (queue-count k)
      ∙ same-by (unknown h) (robots h) (robot_known s h.opening) (robot_after h)
      (λ r l. robot_same (robot_after h r) (ap (λ cells. slice_index cells r) (cells-of k)) (shut-at k r l) (wait-of k r l) (ap (λ q. q.items) (queue-of k r l)))

  clients-are : map (client_known (clients_of s)) (range_with_len 0 (length s.tallies)) ≡ map (client_after h) (range_with_len 0 (clients h))
  clients-are =
      ap (λ n. map (client_known (clients_of s)) (range_with_len 0 n)) (tally-count k)
      ∙ same-by history.unknown_client (clients h) (client_known (clients_of s)) (client_after h)
      (λ c l. client_same (ap (λ (t : Tally). t.taken) (tally-of k c l)) (ap (λ (a : Account). a.accepted) (account-of k c l)) (ap (λ (t : Tally). t.noticed) (tally-of k c l)) (ap (λ (a : Account). a.closed) (account-of k c l)))

  -- what the state shows is the next opening
  pub next-is : opening_in s h.opening ≡ next_opening h
  next-is = rw (robots-are, clients-are, ap (λ (s : State A). s.tick) k.is) refl

-- what is made of a robot's parts, and the list with one more robot
pub known-made : {A : Type 0} (s : State A) (o : Opening A) (r cell : ℕ) (shut : Bool) (wait : Option ℕ) (errands : List Errand) (arrivals farewells : StampLaw) →
    cell ≡ slice_index s.cells r → shut ≡ is_shut s.counts r → wait ≡ slice_index_or s.waits r None → errands ≡ (queue_at s.queues r).items →
    arrivals ≡ arrival_law (start o) r → farewells ≡ farewell_law (start o) r →
    map (robot_known s o) (range_with_len 0 r) ++ record { cell = cell; shut = shut; wait = wait; errands = errands; arrival_law = arrivals; farewell_law = farewells } ∷ []
    ≡ map (robot_known s o) (range_with_len 0 (r + 1))
known-made s o r cell shut wait errands arrivals farewells a b c d e f = rw (a, b, c, d, e, f, map-range_more (robot_known s o) r) refl

-- what is made of the state's parts is that opening
pub opening-made : {A : Type 0} (s : State A) (o : Opening A) (tick : ℕ) (clients : List ClientState) (robots : List (RobotState A)) → tick ≡ s.tick →
    clients ≡ map (client_known (clients_of s)) (range_with_len 0 (length s.tallies)) → robots ≡ map (robot_known s o) (range_with_len 0 (length s.queues)) →
    ◌≡◌ {A = Opening A} (record { tick = tick; queue = o.queue; life = o.life; clients = clients; robots = robots }) (opening_in s o)
opening-made s o tick clients robots t c r = rw (t, c, r) refl

-- ---- the state

-- the next chapter begins in the state in which this one ends
pub state-next : {A : Type 0} (m : Floor) (h : History A) (rooms : List ℕ) → IsLegal m h → state_after rooms (start (next_opening h)) ≡ state_after rooms h
state-next m h rooms legal =
    let g = start (next_opening h) in
    state-same rooms
    (start-place h m legal)
    (ap (λ n. map (queue_after rooms g) (range_with_len 0 n)) (next-robots h) ∙ same-by no_queue (robots h) (queue_after rooms g) (queue_after rooms h) (λ r l. ap (λ u. record { items = u; capacity = slice_index rooms r }) (start-unfinished h r l)))
    (ap (λ n. map (wait g) (range_with_len 0 n)) (next-robots h) ∙ same-by None (robots h) (wait g) (wait h) (λ r l. start-wait h r l))
    (ap (λ n. map (account_after g) (range_with_len 0 n)) (next-clients h) ∙ same-by blank (clients h) (account_after g) (account_after h) (λ c l. account_same _ _ _ _ _ _ (start-accepted h c l) (start-owed h c) (start-closed h c l)))
    (ap (λ n. map (history.is_shut g) (range_with_len 0 n)) (next-robots h) ∙ same-by false (robots h) (history.is_shut g) (history.is_shut h) (λ r l. start-shut h r l))
    refl
    (ap (λ n. map (tally_after g) (range_with_len 0 n)) (next-clients h) ∙ same-by no_tally (clients h) (tally_after g) (tally_after h) (λ c l. tally_same (start-taken h c l) (start-noticed h c l)))
    refl
    (start-clock h)

-- so it is the state of the history that goes on
pub goes-on : {A : Type 0} {m : Floor} {h : History A} {s : State A} → IsStateOf m h s → HasRoomForCounts h → IsStateOf m (start (next_opening h)) s
goes-on {m = m} {h = h} {s = s} k room = record { legal = next-legal m h k.legal room; is = k.is ∙ sym (state-next m h s.rooms k.legal) }

-- the state at the opening that follows a history is the state after it
pub opened-next : {A : Type 0} {n : Floor} {o : Opening A} (i : IsInOrder n o) (rooms : List ℕ) (m : Floor) (h : History A) → IsLegal m h → o ≡ next_opening h →
    state_with (robots_in rooms o.robots) (clients_in o) o.queue rooms o.tick ≡ state_after rooms h
opened-next i rooms m h legal e = (opened-is i rooms).is ∙ ap (λ o. state_after rooms (start o)) e ∙ state-next m h rooms legal
