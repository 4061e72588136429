-- The state at an opening.
use Rattle.std.proofs.Common.{◌≡◌, ℕ, ◌+◌, ◌<◌, List, [], ◌∷◌, length, map, Bool, false, Option, Some, None, not, sym, refl, ap, ◌∙◌, subst, arith, get_or, add-zero}
use Rattle.std.specs.Prelude.{slice_get, slice_index, slice_index_or, is_some, unwrap_or}
use Rattle.std.specs.List.{range_with_len}
use Rattle.std.proofs.lemmas.List.{length-map, get_or-map}
use Rattle.std.proofs.Math.Bool.{or-false}
use Rattle.fleet_grid.specs.Floor.{Floor}
use Rattle.fleet_queue.specs.declared.errand.Errand.{Errand}
use Rattle.fleet_book.specs.declared.account.Account.{Account}
use Rattle.fleet_book.specs.Counts.{AreWithin, IsWithin, blank}
use Rattle.fleet_history.specs.declared.history.Opening.{Opening}
use Rattle.fleet_history.specs.declared.history.RobotState.{RobotState}
use Rattle.fleet_history.specs.History.{start, unfinished, is_shut, unknown_client}
use Rattle.fleet_history.specs.Legal.{IsInOrder, opened, is_none_left}
use Rattle.fleet_history.specs.Waits.{wait, wait_at, wait_for}
use Rattle.fleet_history.proofs.Legal.{unknown_robot}
use Rattle.fleet_history.proofs.Next.{owed-start}
use Rattle.fleet_history.proofs.Withdrawals.{unfinished-start}
use Rattle.fleet_state.specs.declared.clients.Tally.{Tally}
use Rattle.fleet_state.specs.Clients.{no_tally}
use Rattle.fleet_state.specs.Robots.{no_queue}
use Rattle.fleet_state.specs.State.{IsStateOf, queue_after, account_after, tally_after, state_with}
use Rattle.fleet_state.specs.Opened.{queue_in, tally_in, account_in, robots_in, clients_in}
use Rattle.fleet_state.proofs.Parts.{listed, same-by, item-by, length-by}
use Rattle.fleet_state.proofs.Laws.{robot-at}
use Rattle.fleet_state.proofs.Entered.{state-same}

-- a wait that is there exactly where errands are
wait_from : {A : Type 0} (o : Opening A) (r : ℕ) (u : List Errand) (w : Option ℕ) → is_some w ≡ not (is_none_left u) → wait_at (start o) r ≡ unwrap_or w 0 → w ≡ wait_for (start o) r (slice_get u 0)
wait_from o r [] None e at = refl
wait_from o r [] (Some v) e at = cc
wait_from o r (f ∷ u) None e at = cc
wait_from o r (f ∷ u) (Some v) e at = ap Some (sym (add-zero v) ∙ ap (λ n. n + 0) (sym at))

account_same : (a a' b b' : ℕ) (c c' : Bool) → a ≡ a' → b ≡ b' → c ≡ c' → ◌≡◌ {A = Account} (record { accepted = a; owed = b; closed = c }) (record { accepted = a'; owed = b'; closed = c' })
account_same a a' b b' c c' p q r = rw (p, q, r) refl

pub tally_same : {a a' b b' : ℕ} → a ≡ a' → b ≡ b' → ◌≡◌ {A = Tally} (record { taken = a; noticed = b }) (record { taken = a'; noticed = b' })
tally_same p q = rw (p, q) refl

module _ {A : Type 0} {m : Floor} {o : Opening A} (i : IsInOrder m o) where
  errands-of : (r : ℕ) → r < length o.robots → unfinished (start o) r ≡ (get_or o.robots r unknown_robot).errands
  errands-of r l = unfinished-start o r ∙ robot-at (λ (x : RobotState A). x.errands) o r [] l

  -- no client is owed more than it had accepted
  pub owed-within : (c : ℕ) → c < length o.clients → IsWithin o.life (account_in o.clients o.robots c)
  owed-within c l = (omega (arith, (i.clients c l).told, (i.clients c l).not_early), (i.clients c l).within_life)

  pub are-within : AreWithin o.life (map (account_in o.clients o.robots) (range_with_len 0 (length o.clients)))
  are-within k d l =
      let known : k < length o.clients = omega (arith, length-by (account_in o.clients o.robots) (length o.clients)) in
      subst (IsWithin o.life) (sym (item-by (account_in o.clients o.robots) (length o.clients) k d known)) (owed-within k known)

  pub opened-is : (rooms : List ℕ) →
      IsStateOf m (start o) (state_with (robots_in rooms o.robots) (clients_in o) o.queue rooms o.tick)
  opened-is rooms = record {
    legal = opened i;
    is = state-same rooms
        refl
        (same-by no_queue (length o.robots) (queue_in rooms o.robots) (queue_after rooms (start o))
        (λ r l. ap (λ u. record { items = u; capacity = slice_index rooms r }) (sym (unfinished-start o r))))
        (listed None (length o.robots) (wait (start o)) (map (λ (x : RobotState A). x.wait) o.robots) (length-map o.robots (λ (x : RobotState A). x.wait))
        (λ r l. robot-at (λ (x : RobotState A). x.wait) o r None l
        ∙ wait_from o r (get_or o.robots r unknown_robot).errands (get_or o.robots r unknown_robot).wait (i.robots r unknown_robot l).waits
        (ap (λ (w : Option ℕ). unwrap_or w 0) (robot-at (λ (x : RobotState A). x.wait) o r None l))
        ∙ ap (λ u. wait_for (start o) r (slice_get u 0)) (sym (errands-of r l))))
        (same-by blank (length o.clients) (account_in o.clients o.robots) (account_after (start o))
        (λ c l. account_same _ _ _ _ _ _ (sym (add-zero (slice_index_or o.clients c unknown_client).accepted)) (sym (owed-start o c)) (sym (or-false (slice_index_or o.clients c unknown_client).closed))))
        (listed false (length o.robots) (is_shut (start o)) (map (λ (x : RobotState A). x.shut) o.robots) (length-map o.robots (λ (x : RobotState A). x.shut))
        (λ r l. sym (or-false (get_or (map (λ (x : RobotState A). x.shut) o.robots) r false))))
        refl
        (listed no_tally (length o.clients) (tally_after (start o)) (map tally_in o.clients) (length-map o.clients tally_in)
        (λ c l. get_or-map tally_in o.clients c unknown_client no_tally l ∙ tally_same (sym (add-zero (slice_index_or o.clients c unknown_client).taken)) (sym (add-zero (slice_index_or o.clients c unknown_client).noticed))))
        refl
        (sym (add-zero o.tick));
  }
