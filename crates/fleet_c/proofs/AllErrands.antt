-- What the open errands of all clients make of a robot's value.
use Rattle.std.proofs.Common.{◌≡◌, ◌≢◌, ℕ, zero, suc, ◌+◌, ◌<◌, List, [], ◌∷◌, length, map, sym, refl, ap, ◌∙◌, arith, inl, inr, Some}
use Rattle.std.specs.Prelude.{All, slice_get}
use Rattle.std.proofs.lemmas.Bool.{cases_eq, eq-eqb, ne_eqb}
use Rattle.std.proofs.lemmas.List.{map-append}
use Rattle.fleet_grid.specs.Floor.{Floor}
use Rattle.fleet_queue.specs.declared.errand.Errand.{Errand}
use Rattle.fleet_history.specs.History.{History, clients, robots, unfinished}
use Rattle.fleet_history.specs.Legal.{IsLegal}
use Rattle.fleet_history.proofs.Legal.{legal-opening, legal-known_unfinished}
use Rattle.fleet_state.specs.State.{by_robot}
use Rattle.fleet_state.proofs.Parts.{length-by, item-by}
use Rattle.fleet_core.specs.OpenErrands.{open_in, open_from, open_errands}
use Rattle.fleet_c.specs.declared.chore.Chore.{Chore}
use Rattle.fleet_c.specs.declared.standing.TheConstants.{NOWHERE}
use Rattle.fleet_c.specs.Errands.{chore_of, goal_of}
use Rattle.fleet_c.specs.inside.Runs.{run, chores_until, farther, nearer, put_at, AreAll}
use Rattle.fleet_c.proofs.InTurn.{item-at}
use Rattle.fleet_c.proofs.Runs.{run-append}
use Rattle.fleet_c.proofs.Turns.{top, farther-turn, top-none, top-all, front_goal, nearer-turn, front-none, front-all, slot, put-turn, slot-none, slot-all, slot-past}

-- a step that leaves the value of this robot as it is, for errands of another
module _ {Y : Type 0} (step : Chore → Y → Y) (r : ℕ) (frame : (c : Chore) (y : Y) → c.robot ≢ r → step c y ≡ y) where
  run-other : (client robot place : ℕ) (es : List Errand) (y : Y) → robot ≢ r → run step (map (chore_of client) (open_in client robot place es)) y ≡ y
  run-other client robot place [] y ne = refl
  run-other client robot place (e ∷ es) y ne =
      elim (cases_eq e.client client) [
        | inl same ↦ rw (eq-eqb e.client client same)
            (ap (run step (map (chore_of client) (open_in client robot (place + 1) es))) (frame (record { number = e.number; place = place; client = client; robot = robot; cell = e.cell }) y ne)
            ∙ run-other client robot (place + 1) es y ne)
        | inr other ↦ rw (ne_eqb e.client client other) (run-other client robot (place + 1) es y ne)
      ]

  -- a queue, and those after it
  parts : (client j : ℕ) (q : List Errand) (qs : List (List Errand)) (y : Y) → run step (map (chore_of client) (open_from client j (q ∷ qs))) y
      ≡ run step (map (chore_of client) (open_from client (j + 1) qs)) (run step (map (chore_of client) (open_in client j 1 q)) y)
  parts client j q qs y =
      ap (λ t. run step t y) (map-append (chore_of client) (open_in client j 1 q) (open_from client (j + 1) qs))
      ∙ run-append step (map (chore_of client) (open_in client j 1 q)) (map (chore_of client) (open_from client (j + 1) qs)) y

  run-above : (client j : ℕ) (qs : List (List Errand)) (y : Y) → r < j → run step (map (chore_of client) (open_from client j qs)) y ≡ y
  run-above client j [] y l = refl
  run-above client j (q ∷ qs) y l =
      let ne : j ≢ r = omega (arith, l) in
      parts client j q qs y ∙ ap (run step (map (chore_of client) (open_from client (j + 1) qs))) (run-other client j 1 q y ne) ∙ run-above client (j + 1) qs y (omega (arith, l))

  run-from : (client j k : ℕ) (qs : List (List Errand)) (es : List Errand) (y : Y) → r ≡ j + k → slice_get qs k ≡ Some es
      → run step (map (chore_of client) (open_from client j qs)) y ≡ run step (map (chore_of client) (open_in client r 1 es)) y
  run-from client j k [] es y is at = cc
  run-from client j zero (q ∷ qs) es y is at =
      let same : q ≡ es = cc in
      let here : j ≡ r = omega (arith, is) in
      parts client j q qs y ∙ run-above client (j + 1) qs (run step (map (chore_of client) (open_in client j 1 q)) y) (omega (arith, is))
      ∙ ap (λ (i : ℕ). run step (map (chore_of client) (open_in client i 1 q)) y) here
      ∙ ap (λ (xs : List Errand). run step (map (chore_of client) (open_in client r 1 xs)) y) same
  run-from client j (suc k) (q ∷ qs) es y is at =
      let ne : j ≢ r = omega (arith, is) in
      parts client j q qs y ∙ ap (run step (map (chore_of client) (open_from client (j + 1) qs))) (run-other client j 1 q y ne) ∙ run-from client (j + 1) k qs es y (omega (arith, is)) at

  module _ {A : Type 0} (h : History A) (inside : r < robots h) where
    run-client : (client : ℕ) (y : Y) → run step (map (chore_of client) (open_errands h client)) y ≡ run step (map (chore_of client) (open_in client r 1 (unfinished h r))) y
    run-client client y =
        let n : r < length (by_robot h (unfinished h)) = omega (arith, inside, length-by (unfinished h) (robots h)) in
        run-from client 0 r (by_robot h (unfinished h)) (unfinished h r) y (omega arith) (item-at (by_robot h (unfinished h)) r [] n ∙ ap Some (item-by (unfinished h) (robots h) r [] inside))

    run-until : (value : ℕ → Y) → ((client : ℕ) → run step (map (chore_of client) (open_in client r 1 (unfinished h r))) (value client) ≡ value (suc client))
        → (n : ℕ) → run step (chores_until h n) (value 0) ≡ value n
    run-until value next zero = refl
    run-until value next (suc n) =
        run-append step (chores_until h n) (map (chore_of n) (open_errands h n)) (value 0)
        ∙ ap (run step (map (chore_of n) (open_errands h n))) (run-until value next n) ∙ run-client n (value n) ∙ next n

-- ---- what is read off all errands

module _ {A : Type 0} (m : Floor) (h : History A) (legal : IsLegal m h) (r : ℕ) (inside : r < robots h) where
  known : All (λ (e : Errand). e.client < clients h) (unfinished h r)
  known = legal-known_unfinished m h r legal

  longest-is : run (farther r) (chores_until h (clients h)) 0 ≡ length (unfinished h r)
  longest-is =
      ap (run (farther r) (chores_until h (clients h))) (sym (top-none 1 (unfinished h r)))
      ∙ run-until (farther r) r (λ c y ne. rw (ne_eqb c.robot r ne) refl) h inside (λ n. top n 1 (unfinished h r)) (λ c. farther-turn r c (unfinished h r)) (clients h)
      ∙ top-all (clients h) (unfinished h r) known

  goal-is : run (nearer r) (chores_until h (clients h)) NOWHERE ≡ goal_of (slice_get (unfinished h r) 0)
  goal-is =
      ap (run (nearer r) (chores_until h (clients h))) (sym (front-none (unfinished h r) NOWHERE))
      ∙ run-until (nearer r) r (λ c y ne. rw (ne_eqb c.robot r ne) refl) h inside (λ n. front_goal n (unfinished h r) NOWHERE) (λ c. nearer-turn r c (unfinished h r) NOWHERE) (clients h)
      ∙ front-all (clients h) (unfinished h r) known

  put-is : (k : ℕ) (was : Chore) → run (put_at r k) (chores_until h (clients h)) was ≡ slot (clients h) r 1 k (unfinished h r) was
  put-is k was =
      ap (run (put_at r k) (chores_until h (clients h))) (sym (slot-none r 1 k (unfinished h r) was))
      ∙ run-until (put_at r k) r (λ c y ne. rw (ne_eqb c.robot r ne) refl) h inside (λ n. slot n r 1 k (unfinished h r) was) (λ c. put-turn r k c (unfinished h r) was) (clients h)

pub are-all : {A : Type 0} (m : Floor) (h : History A) → IsLegal m h → AreAll h (chores_until h (clients h))
are-all m h legal = record {
  few = (legal-opening m h legal).few_robots;
  longest = λ r l. longest-is m h legal r l;
  goals = λ r l. goal-is m h legal r l;
  placed = λ r k was d l n. put-is m h legal r l k was ∙ slot-all (clients h) r 1 k (unfinished h r) was d (known m h legal r l) n;
  past = λ r k was l n. put-is m h legal r l k was ∙ slot-past (clients h) r 1 k (unfinished h r) was n;
}
