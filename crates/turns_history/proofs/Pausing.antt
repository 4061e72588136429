-- Takes are pauses of the fleet. Shuts and next openings leave it as it is.
use Rattle.std.proofs.Common.{◌≡◌, ℕ, ◌<◌, List, [], ◌∷◌, ◌++◌, length, map, Option, Some, None, sym, refl, ap, subst, ◌∙◌, arith}
use Rattle.std.specs.Prelude.{slice_get}
use Rattle.std.specs.List.{range_with_len}
use Rattle.std.proofs.lemmas.List.{length-map, ext_get_or}
use Rattle.std.proofs.lemmas.List.FromFn.{length-range_with_len}
use Rattle.fleet_grid.specs.Floor.{Floor}
use Rattle.fleet_queue.specs.declared.errand.Errand.{Errand}
use Rattle.fleet_book.specs.declared.order.Order.{Order}
use Rattle.fleet_book.specs.declared.verdict.Verdict.{Verdict}
use Rattle.fleet_history.specs.declared.history.Entry.TheVariants.{Take, Shut}
use Rattle.fleet_history.specs.History.{History, start, robots, after, place, front, unfinished, errand_for}
use Rattle.fleet_history.specs.Verdicts.{IsVerdict}
use Rattle.fleet_history.specs.Legal.{IsLegal}
use Rattle.fleet_history.specs.Next.{next_opening}
use Rattle.fleet_history.specs.Waits.{wait}
use Rattle.fleet_history.proofs.After.{place-after}
use Rattle.fleet_history.proofs.Arrivals.{unfinished-after_shut}
use Rattle.fleet_history.proofs.Next.{at_made, next-robots, start-place, start-front, start-wait}
use Rattle.fleet_history.proofs.Places.{front-after_take}
use Rattle.fleet_history.proofs.WaitLaws.{wait-shut}
use Rattle.fleet_planner.specs.Planned.{waits, goals, cell_of}
use Rattle.fleet_bound.proofs.Fronts.{wait-some, wait-none}
use Rattle.fleet_bound.proofs.Moments.{goal-front}
use Rattle.fleet_bound.proofs.Pauses.{take-pause}
use Rattle.turns_law.specs.Fleet.{Fleet, IsPause}
use Rattle.turns_history.specs.Fleets.{as_fleet}
use Rattle.turns_history.proofs.Views.{goal-at, wait-at}
use Rattle.turns_history.proofs.Ticking.{no_cell}

-- ---- a take

first-stays : (u v : List Errand) (f : Errand) → slice_get u 0 ≡ Some f → slice_get (u ++ v) 0 ≡ Some f
first-stays [] v f e = cc
first-stays (x ∷ u) v f e = e

module _ {A : Type 0} (m : Floor) (h : History A) (legal : IsLegal m h) (c : ℕ) (order : Order) (v : Verdict) (is : IsVerdict m h c order v) where
  -- a withdrawal never takes a front
  pub front-kept : (r : ℕ) (f : Errand) → r < robots h → front h r ≡ Some f → front (after h (Take c order v)) r ≡ Some f
  front-kept r f known found = front-after_take m h c order v r legal is known ∙ first-stays (unfinished h r) (errand_for r c order v) f found

  pub take-in-turns : IsPause (robots h) (as_fleet h) (as_fleet (after h (Take c order v)))
  take-in-turns =
      let g : History A = after h (Take c order v) in
      let pause = take-pause m h c order v legal is in
      record {
        stays = place-after h (Take c order v);
        kept = λ r goal known is. (
            let found = goal-front m h r goal known is in
            let waited = wait-some h r found.0 found.1 in (
              goal-at g r known ∙ ap cell_of (front-kept r found.0 known found.1) ∙ ap Some found.2,
              wait-at g r known ∙ (pause.kept r waited.0 known waited.1).0 ∙ sym waited.1 ∙ sym (wait-at h r known),
            ));
        fresh = λ r w known none is.
            pause.fresh r w known (wait-none h r (no_cell (front h r) (sym (goal-at h r known) ∙ none))) (sym (wait-at g r known) ∙ is);
      }

-- ---- shuts and next openings

same-made : {X : Type 0} (f g : ℕ → X) (n k : ℕ) (d : X) → n ≡ k → ((r : ℕ) → r < k → f r ≡ g r) → map f (range_with_len 0 n) ≡ map g (range_with_len 0 k)
same-made f g n k d same each =
    let size = length-map (range_with_len 0 n) f ∙ length-range_with_len 0 n in
    let other = length-map (range_with_len 0 k) g ∙ length-range_with_len 0 k in
    ext_get_or d (map f (range_with_len 0 n)) (map g (range_with_len 0 k)) (size ∙ same ∙ sym other)
    (λ r l. (let below : r < n = omega (arith, l, size) in
    let there : r < k = omega (arith, below, same) in
    at_made f n r d below ∙ each r there ∙ sym (at_made g k r d there)))

same-fleet : {A : Type 0} (h g : History A) → robots g ≡ robots h → place g ≡ place h → ((r : ℕ) → r < robots h → front g r ≡ front h r) → ((r : ℕ) → r < robots h → wait g r ≡ wait h r) →
    as_fleet g ≡ as_fleet h
same-fleet h g many stays fronts waited =
    let gs : goals g ≡ goals h = same-made (λ r. cell_of (front g r)) (λ r. cell_of (front h r)) (robots g) (robots h) None many (λ r l. ap cell_of (fronts r l)) in
    let ws : waits g ≡ waits h = same-made (wait g) (wait h) (robots g) (robots h) None many waited in
    ap (λ (p : List ℕ). record { cells = p; goals = goals g; waits = waits g }) stays
    ∙ ap (λ (l : List (Option ℕ)). record { cells = place h; goals = l; waits = waits g }) gs
    ∙ ap (λ (l : List (Option ℕ)). record { cells = place h; goals = goals h; waits = l }) ws

pub shut-in-turns : {A : Type 0} (h : History A) (robot : ℕ) (farewell : Option ℕ) → as_fleet (after h (Shut robot farewell)) ≡ as_fleet h
shut-in-turns h robot farewell = same-fleet h (after h (Shut robot farewell)) refl (place-after h (Shut robot farewell))
    (λ r l. ap (λ u. slice_get u 0) (unfinished-after_shut h robot farewell r)) (λ r l. wait-shut h robot farewell r)

pub next-in-turns : {A : Type 0} (m : Floor) (h : History A) → IsLegal m h → as_fleet (start (next_opening h)) ≡ as_fleet h
next-in-turns m h legal = same-fleet h (start (next_opening h)) (next-robots h) (start-place h m legal) (start-front h) (start-wait h)
