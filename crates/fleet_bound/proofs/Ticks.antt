-- An advancing tick of a history is one of its waits.
use Rattle.std.proofs.Common.{◌≡◌, ℕ, zero, suc, ◌+◌, ◌<◌, inl, inr, List, [], ◌∷◌, length, drop, eqb, Bool, true, false, Option, Some, None, sym, refl, ap, ◌∙◌, arith}
use Rattle.std.specs.Prelude.{◌==◌, slice_get, slice_index}
use Rattle.std.proofs.lemmas.Bool.{eqb-false}
use Rattle.fleet_grid.specs.Floor.{Floor, IsNeighbour}
use Rattle.fleet_grid.specs.Walk.{Walks, IsDistance}
use Rattle.fleet_grid.specs.Distance.{distance}
use Rattle.fleet_grid.proofs.Shortest.{is_distance}
use Rattle.fleet_queue.specs.declared.errand.Errand.{Errand}
use Rattle.fleet_history.specs.declared.history.Arrival.{Arrival}
use Rattle.fleet_history.specs.declared.history.Bye.{Bye}
use Rattle.fleet_history.specs.declared.history.Entry.TheVariants.{Tick}
use Rattle.fleet_history.specs.History.{History, robots, after, place, front, unfinished}
use Rattle.fleet_history.specs.Legal.{IsLegal, IsTickAfter}
use Rattle.fleet_history.specs.inside.Landing.{landed}
use Rattle.fleet_history.specs.Waits.{wait}
use Rattle.fleet_history.specs.Waited.{wait_ticked, wait_anew}
use Rattle.fleet_history.proofs.After.{place-after}
use Rattle.fleet_history.proofs.Arrivals.{unfinished-after_tick}
use Rattle.fleet_history.proofs.Legal.{length-place}
use Rattle.fleet_history.proofs.WaitLaws.{wait-after_tick}
use Rattle.fleet_planner.specs.Planned.{IsAdvancingTick}
use Rattle.fleet_bound.specs.Waiting.{IsEldest, IsAdvance}
use Rattle.fleet_bound.proofs.Fronts.{front-waits, front-idle}
use Rattle.fleet_bound.proofs.Moments.{moment, eldest-of, goal-is, away-is, on_floor}

-- whether a robot with this front is on its cell
abbrev pub is_landing : List ℕ → ℕ → Option Errand → Bool
is_landing to r None = false
is_landing to r (Some f) = f.cell == slice_index to r

-- whether the cells in `to` leave a robot on its front's cell
abbrev pub lands : {A : Type 0} → History A → List ℕ → ℕ → Bool
lands h to r = is_landing to r (front h r)

-- ---- the wait after a tick

ticked-idle : (to : List ℕ) (r : ℕ) (u : List Errand) (o : Option ℕ) → slice_get u 0 ≡ None → wait_ticked to r u o ≡ None
ticked-idle to r [] o e = refl
ticked-idle to r (f ∷ rest) o e = cc

ticked-on : (to : List ℕ) (r w : ℕ) (u : List Errand) (f : Errand) → slice_get u 0 ≡ Some f → is_landing to r (slice_get u 0) ≡ false → wait_ticked to r u (Some w) ≡ Some (w + 1)
ticked-on to r w [] f e away = cc
ticked-on to r w (x ∷ rest) f e away = rw away refl

pub anew-zero : (u : List Errand) (v : ℕ) → wait_anew u ≡ Some v → v ≡ 0
anew-zero [] v e = cc
anew-zero (x ∷ u) v e = cc

ticked-anew : (to : List ℕ) (r v : ℕ) (u : List Errand) (o : Option ℕ) → is_landing to r (slice_get u 0) ≡ true → wait_ticked to r u o ≡ Some v → v ≡ 0
ticked-anew to r v [] o here e = cc
ticked-anew to r v (x ∷ rest) o here e = anew-zero rest v (sym (let it : wait_ticked to r (x ∷ rest) o ≡ wait_anew rest = rw here refl in it) ∙ e)

pub landed-none : (to : List ℕ) (r : ℕ) (o : Option Errand) → is_landing to r o ≡ false → landed to r o ≡ []
landed-none to r None e = refl
landed-none to r (Some f) e = rw e refl

pub landed-one : (to : List ℕ) (r : ℕ) (f : Errand) → is_landing to r (Some f) ≡ true → landed to r (Some f) ≡ f ∷ []
landed-one to r f e = rw e refl

-- a walk of no edges ends where it begins
no_edge : (Near : ℕ → ℕ → Type 0) (a b : ℕ) (cs : List ℕ) → Walks Near a cs b → length cs ≡ 0 → a ≡ b
no_edge Near a b [] w l = w
no_edge Near a b (c ∷ cs) w l = absurd (omega arith)

far_off : (m : Floor) (a b d : ℕ) → IsDistance (IsNeighbour m) a b d → eqb b a ≡ false → 0 < d
far_off m a b zero is ne = absurd (eqb-false b a ne (sym (no_edge (IsNeighbour m) a b is.walk.0 is.walk.1 is.walk.2)))
far_off m a b (suc d) is ne = omega arith

module _ {A : Type 0} (m : Floor) (h : History A) (to : List ℕ) (arrived : List Arrival) (farewells : List Bye) (legal : IsLegal m h) (fits : IsTickAfter m h to arrived farewells) where
  ticked : (r : ℕ) → r < robots h → wait (after h (Tick to arrived farewells)) r ≡ wait_ticked to r (unfinished h r) (wait h r)
  ticked r inside = wait-after_tick h to arrived farewells r inside fits.shows

  -- who does not land keeps its front
  kept-front : (r : ℕ) → r < robots h → lands h to r ≡ false → front (after h (Tick to arrived farewells)) r ≡ front h r
  kept-front r inside away =
      let left : unfinished (after h (Tick to arrived farewells)) r ≡ unfinished h r = unfinished-after_tick h to arrived farewells r inside fits.shows ∙ ap (λ (l : List Errand). drop (length l) (unfinished h r)) (landed-none to r (front h r) away) in
      ap (λ u. slice_get u 0) left

  tick-nearer : IsAdvancingTick m h to → (e : ℕ) → IsEldest (robots h) (moment m h) e → lands h to e ≡ false →
      (0 < (moment m (after h (Tick to arrived farewells))).away e) × ((moment m (after h (Tick to arrived farewells))).away e + 1 ≡ (moment m h).away e)
  tick-nearer advancing e eldest away =
      let g : History A = after h (Tick to arrived farewells) in
      let found = front-waits h e eldest.age eldest.waits in
      let f : Errand = found.0 in
      let off : eqb f.cell (slice_index to e) ≡ false = sym (ap (is_landing to e) found.1) ∙ away in
      let kept : front g e ≡ Some f = kept-front e eldest.known away ∙ found.1 in
      let there : slice_index (place g) e ≡ slice_index to e = ap (λ (p : List ℕ). slice_index p e) (place-after h (Tick to arrived farewells)) in
      elim (advancing e f.cell (eldest-of m h e eldest) (goal-is m h e f eldest.known found.1)) [
        | inl near ↦ (
            let d : ℕ = near.0 in
            let floor = fits.step.on_floor e (omega (arith, eldest.known, length-place m h legal)) in
            let new : distance m (slice_index (place g) e) f.cell ≡ Some d = ap (λ (c : ℕ). distance m c f.cell) there ∙ is_distance m (slice_index to e) f.cell d floor near.2 in
            let old : distance m (slice_index (place h) e) f.cell ≡ Some (suc d) = is_distance m (slice_index (place h) e) f.cell (suc d) (on_floor m h legal e eldest.known) near.1 in
            let now = away-is m g e d f kept new in
            let was = away-is m h e (suc d) f found.1 old in
            (omega (arith, now, far_off m (slice_index to e) f.cell d near.2 off), omega (arith, now, was)))
        | inr stood ↦ absurd (eqb-false f.cell (slice_index to e) off (sym stood.0 ∙ sym stood.1))
      ]

  pub tick-advances : IsAdvancingTick m h to → IsAdvance (robots h) (moment m h) (moment m (after h (Tick to arrived farewells))) (lands h to)
  tick-advances advancing = record {
    idle = λ r inside none. ticked r inside ∙ ticked-idle to r (unfinished h r) (wait h r) (front-idle h r none);
    waits_on = λ r w inside waits away. (
        let found = front-waits h r w waits in
        ticked r inside ∙ ap (wait_ticked to r (unfinished h r)) waits ∙ ticked-on to r w (unfinished h r) found.0 found.1 away);
    anew = λ r w v inside waits here new. ticked-anew to r v (unfinished h r) (wait h r) here (sym (ticked r inside) ∙ new);
    nearer = tick-nearer advancing;
  }
