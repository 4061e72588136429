-- Takes, shuts and next openings are pauses.
use Rattle.std.proofs.Common.{◌≡◌, ℕ, ◌<◌, List, [], ◌∷◌, ◌++◌, Option, Some, None, sym, ap, ◌∙◌}
use Rattle.std.specs.Prelude.{slice_get, slice_index}
use Rattle.fleet_grid.specs.Floor.{Floor}
use Rattle.fleet_queue.specs.declared.errand.Errand.{Errand}
use Rattle.fleet_book.specs.declared.order.Order.{Order}
use Rattle.fleet_book.specs.declared.verdict.Verdict.{Verdict}
use Rattle.fleet_history.specs.declared.history.Entry.TheVariants.{Take, Shut}
use Rattle.fleet_history.specs.History.{History, start, robots, after, place, front, unfinished, errand_for}
use Rattle.fleet_history.specs.Verdicts.{IsVerdict}
use Rattle.fleet_history.specs.Legal.{IsLegal}
use Rattle.fleet_history.specs.Next.{next_opening}
use Rattle.fleet_history.specs.Waits.{wait}
use Rattle.fleet_history.specs.Waited.{wait_taken}
use Rattle.fleet_history.proofs.After.{place-after}
use Rattle.fleet_history.proofs.Arrivals.{unfinished-after_shut}
use Rattle.fleet_history.proofs.Next.{start-place, start-front, start-wait}
use Rattle.fleet_history.proofs.Places.{front-after_take}
use Rattle.fleet_history.proofs.WaitLaws.{wait-after_take, wait-shut}
use Rattle.fleet_bound.specs.Waiting.{IsPause}
use Rattle.fleet_bound.proofs.Fronts.{front-waits}
use Rattle.fleet_bound.proofs.Moments.{away_from, moment}
use Rattle.fleet_bound.proofs.Ticks.{anew-zero}

-- where waits, fronts and cells stay
same-pause : {A : Type 0} (m : Floor) (h g : History A) → ((r : ℕ) → r < robots h → wait g r ≡ wait h r) → ((r : ℕ) → r < robots h → front g r ≡ front h r) → place g ≡ place h →
    IsPause (robots h) (moment m h) (moment m g)
same-pause m h g waits fronts stays = record {
  kept = λ r w inside is. (
    waits r inside ∙ is,
    ap (λ (p : List ℕ). away_from m (slice_index p r) (front g r)) stays ∙ ap (away_from m (slice_index (place h) r)) (fronts r inside),
  );
  fresh = λ r v inside idle is. (let none : wait g r ≡ None = waits r inside ∙ idle in absurd (cc (none, is)));
}

pub shut-pause : {A : Type 0} (m : Floor) (h : History A) (robot : ℕ) (farewell : Option ℕ) → IsPause (robots h) (moment m h) (moment m (after h (Shut robot farewell)))
shut-pause m h robot farewell = same-pause m h (after h (Shut robot farewell))
    (λ r inside. wait-shut h robot farewell r)
    (λ r inside. ap (λ u. slice_get u 0) (unfinished-after_shut h robot farewell r))
    (place-after h (Shut robot farewell))

pub next-pause : {A : Type 0} (m : Floor) (h : History A) → IsLegal m h → IsPause (robots h) (moment m h) (moment m (start (next_opening h)))
next-pause m h legal = same-pause m h (start (next_opening h)) (start-wait h) (start-front h) (start-place h m legal)

first-stays : (u v : List Errand) (f : Errand) → slice_get u 0 ≡ Some f → slice_get (u ++ v) 0 ≡ Some f
first-stays [] v f e = cc
first-stays (x ∷ u) v f e = e

pub take-pause : {A : Type 0} (m : Floor) (h : History A) (c : ℕ) (order : Order) (v : Verdict) → IsLegal m h → IsVerdict m h c order v →
    IsPause (robots h) (moment m h) (moment m (after h (Take c order v)))
take-pause {A = A} m h c order v legal is = record {
  kept = λ r w inside waits. (
      let g : History A = after h (Take c order v) in
      let found = front-waits h r w waits in
      let same : front g r ≡ front h r = front-after_take m h c order v r legal is inside ∙ first-stays (unfinished h r) (errand_for r c order v) found.0 found.1 ∙ sym found.1 in (
        wait-after_take m h c order v r legal is inside ∙ ap (wait_taken (errand_for r c order v)) waits,
        ap (λ (p : List ℕ). away_from m (slice_index p r) (front g r)) (place-after h (Take c order v)) ∙ ap (away_from m (slice_index (place h) r)) same,
      ));
  fresh = λ r t inside idle waits. anew-zero (errand_for r c order v) t
      (sym (wait-after_take m h c order v r legal is inside ∙ ap (wait_taken (errand_for r c order v)) idle) ∙ waits);
}
