-- A list has a robot's queue, once its errands were put at their places.
use Rattle.std.proofs.Common.{◌≡◌, ◌∙◌, ℕ, ◌<◌, ◌≤◌, List, ◌++◌, length, drop, get_or, sym, refl, arith}
use Rattle.std.specs.Prelude.{slice_index_or}
use Rattle.fleet_history.specs.History.{robots, unfinished}
use Rattle.fleet_core.specs.Core.{World}
use Rattle.fleet_c.specs.declared.chore.Chore.{Chore}
use Rattle.fleet_c.specs.declared.codes.TheConstants.{DONE, WRONG_LENGTH}
use Rattle.fleet_c.specs.Errands.{queued_from, ListsQueue}
use Rattle.fleet_c.specs.inside.Runs.{run, farther, put_at, AreAll}
use Rattle.fleet_c.proofs.Places.{filled}
use Rattle.fleet_c.proofs.Turns.{length-queued}

module _ {A : Type 0} (w : World A) (all : List Chore) (r : ℕ) (a : AreAll w.history all) (inside : r < robots w.history) where
  needs : (count : ℕ) → count ≡ run (farther r) all 0 → count ≡ length (queued_from r 1 (unfinished w.history r))
  needs count is = is ∙ a.longest r inside ∙ sym (length-queued r 1 (unfinished w.history r))

  pub queue-short : (before : List Chore) (had count : ℕ) → count ≡ run (farther r) all 0 → length before < count → ListsQueue w r WRONG_LENGTH before before had count
  queue-short before had count is short =
      let needed = needs count is in (
        λ l. absurd (omega (arith, inside, l)),
        λ l. record {
          needed = λ n. needed;
          short = λ n. omega (arith, short, needed);
          told = λ n. absurd (omega (arith, n));
          stays = λ n. refl;
          memory = λ n. absurd (omega (arith, n));
          refused = λ n m. absurd (m refl);
        },
      )

  pub queue-told : (before after : List Chore) (had count : ℕ) → count ≡ run (farther r) all 0 → count ≤ length before → length after ≡ length before
      → ((k : ℕ) (d : Chore) → k < length before → slice_index_or after k d ≡ run (put_at r k) all (slice_index_or before k d)) → ListsQueue w r DONE before after had count
  queue-told before after had count is fits same put =
      let needed = needs count is in
      let long = length-queued r 1 (unfinished w.history r) in
      let told : after ≡ queued_from r 1 (unfinished w.history r) ++ drop (length (queued_from r 1 (unfinished w.history r))) before =
      filled (queued_from r 1 (unfinished w.history r)) before after same (omega (arith, needed, fits))
      (λ k d l. put k d (omega (arith, l, needed, fits)) ∙ a.placed r k (get_or before k d) d inside (omega (arith, l, long)))
      (λ k d l m. put k d m ∙ a.past r k (get_or before k d) inside (omega (arith, l, long))) in (
        λ l. absurd (omega (arith, inside, l)),
        λ l. record {
          needed = λ n. needed;
          short = λ n. absurd (omega (arith, n));
          told = λ n. told;
          stays = λ n. absurd (n refl);
          memory = λ n. absurd (omega (arith, n));
          refused = λ n m. absurd (n refl);
        },
      )
