-- A tick of a history that is planned in turns is one of its fleet.
use Rattle.std.proofs.Common.{◌≡◌, ◌≢◌, ℕ, zero, suc, ◌+◌, ◌<◌, List, [], ◌∷◌, length, drop, eqb, Bool, true, false, Option, Some, None, sym, refl, ap, subst, ◌∙◌, arith}
use Rattle.std.specs.Prelude.{slice_get, slice_index}
use Rattle.std.proofs.lemmas.Bool.{eq-eqb, ne_eqb}
use Rattle.fleet_grid.specs.Floor.{Floor}
use Rattle.fleet_hooks.specs.declared.law.TieLaw.{TieLaw}
use Rattle.fleet_queue.specs.declared.errand.Errand.{Errand}
use Rattle.fleet_history.specs.declared.history.Arrival.{Arrival}
use Rattle.fleet_history.specs.declared.history.Bye.{Bye}
use Rattle.fleet_history.specs.declared.history.Entry.TheVariants.{Tick}
use Rattle.fleet_history.specs.History.{History, robots, after, place, front, unfinished}
use Rattle.fleet_history.specs.Legal.{IsLegal, IsTickAfter}
use Rattle.fleet_history.specs.inside.Landing.{landed}
use Rattle.fleet_history.specs.Waits.{wait}
use Rattle.fleet_history.specs.Waited.{wait_ticked, wait_anew}
use Rattle.fleet_history.proofs.After.{place-after}
use Rattle.fleet_history.proofs.Arrivals.{unfinished-after_tick}
use Rattle.fleet_history.proofs.Legal.{length-place}
use Rattle.fleet_history.proofs.WaitLaws.{wait-after_tick}
use Rattle.fleet_pibt.specs.Order.{wait_of}
use Rattle.fleet_planner.specs.Planned.{waits, goals, cell_of}
use Rattle.fleet_planner.specs.Lending.{goal_at}
use Rattle.fleet_bound.proofs.Fronts.{front-idle}
use Rattle.fleet_bound.proofs.Moments.{goal-front}
use Rattle.fleet_bound.proofs.Ticks.{is_landing, landed-none, anew-zero}
use Rattle.turns_law.specs.Turns.{Turns}
use Rattle.turns_law.specs.Turn.{IsTurn}
use Rattle.turns_law.specs.Fleet.{IsTick}
use Rattle.turns_history.specs.Fleets.{IsPlannedInTurns, as_fleet}
use Rattle.turns_history.proofs.Views.{goal-at, wait-at, waits-so}

-- ---- the wait after a tick

ticked-idle : (to : List ℕ) (r : ℕ) (u : List Errand) (o : Option ℕ) → slice_get u 0 ≡ None → wait_ticked to r u o ≡ None
ticked-idle to r [] o e = refl
ticked-idle to r (f ∷ rest) o e = cc

ticked-on : (to : List ℕ) (r w : ℕ) (u : List Errand) (f : Errand) → slice_get u 0 ≡ Some f → is_landing to r (slice_get u 0) ≡ false → wait_ticked to r u (Some w) ≡ Some (w + 1)
ticked-on to r w [] f e away = cc
ticked-on to r w (x ∷ rest) f e away = rw away refl

ticked-anew : (to : List ℕ) (r v : ℕ) (u : List Errand) (o : Option ℕ) → is_landing to r (slice_get u 0) ≡ true → wait_ticked to r u o ≡ Some v → v ≡ 0
ticked-anew to r v [] o here e = cc
ticked-anew to r v (x ∷ rest) o here e = anew-zero rest v (sym (let it : wait_ticked to r (x ∷ rest) o ≡ wait_anew rest = rw here refl in it) ∙ e)

pub no_cell : (o : Option Errand) → cell_of o ≡ None → o ≡ None
no_cell None e = refl
no_cell (Some f) e = cc

no_front : (u : List Errand) (k : ℕ) → slice_get u 0 ≡ None → slice_get (drop k u) 0 ≡ None
no_front [] zero e = refl
no_front [] (suc k) e = refl
no_front (x ∷ u) k e = cc

module _ {A : Type 0} (m : Floor) (h : History A) (to : List ℕ) (arrived : List Arrival) (farewells : List Bye) (legal : IsLegal m h) (fits : IsTickAfter m h to arrived farewells) where
  abbrev g : History A
  g = after h (Tick to arrived farewells)

  to-is : place g ≡ to
  to-is = place-after h (Tick to arrived farewells)

  in-fleet : (r : ℕ) → r < length (place h) → r < robots h
  in-fleet r l = omega (arith, l, length-place m h legal)

  left-is : (r : ℕ) → r < robots h → unfinished g r ≡ drop (length (landed to r (front h r))) (unfinished h r)
  left-is r known = unfinished-after_tick h to arrived farewells r known fits.shows

  ticked : (r : ℕ) → r < robots h → wait g r ≡ wait_ticked to r (unfinished h r) (wait h r)
  ticked r known = wait-after_tick h to arrived farewells r known fits.shows

  goal-after : (r : ℕ) → r < robots h → goal_at (goals g) r ≡ cell_of (front g r)
  goal-after r known = goal-at (after h (Tick to arrived farewells)) r known

  wait-then : (r : ℕ) → r < robots h → wait_of (waits g) r ≡ wait g r
  wait-then r known = wait-at (after h (Tick to arrived farewells)) r known

  pub front-idles : (r : ℕ) → r < robots h → front h r ≡ None → front g r ≡ None
  front-idles r known none = ap (λ u. slice_get u 0) (left-is r known) ∙ no_front (unfinished h r) (length (landed to r (front h r))) none

  -- who does not land keeps its front, and waits on
  pub front-stays : (r : ℕ) (f : Errand) → r < robots h → front h r ≡ Some f → slice_index to r ≢ f.cell → front g r ≡ Some f
  front-stays r f known is off =
      let away : is_landing to r (front h r) ≡ false = ap (is_landing to r) is ∙ ne_eqb f.cell (slice_index to r) (λ e. off (sym e)) in
      let left : unfinished g r ≡ unfinished h r = left-is r known ∙ ap (λ (l : List Errand). drop (length l) (unfinished h r)) (landed-none to r (front h r) away) in
      ap (λ u. slice_get u 0) left ∙ is

  waits-on : (r w : ℕ) (f : Errand) → r < robots h → front h r ≡ Some f → slice_index to r ≢ f.cell → wait h r ≡ Some w → wait g r ≡ Some (w + 1)
  waits-on r w f known is off waited =
      ticked r known ∙ ap (wait_ticked to r (unfinished h r)) waited
      ∙ ticked-on to r w (unfinished h r) f is (ap (is_landing to r) is ∙ ne_eqb f.cell (slice_index to r) (λ e. off (sym e)))

  begins-anew : (r v : ℕ) (f : Errand) → r < robots h → front h r ≡ Some f → slice_index to r ≡ f.cell → wait g r ≡ Some v → v ≡ 0
  begins-anew r v f known is here waited =
      ticked-anew to r v (unfinished h r) (wait h r) (ap (is_landing to r) is ∙ eq-eqb f.cell (slice_index to r) (sym here)) (sym (ticked r known) ∙ waited)

  pub tick-in-turns : (t : Turns) (laws : List TieLaw) → IsPlannedInTurns m t laws h to → IsTick m t laws (as_fleet h) (as_fleet (after h (Tick to arrived farewells)))
  tick-in-turns t laws planned = record {
    lending = planned.0;
    turn = subst (λ (p : List ℕ). IsTurn m t laws (goals h) (waits h) (place h) p planned.0) (sym to-is) planned.1;
    idle = λ r l none. (
        let known = in-fleet r l in
        goal-after r known ∙ ap cell_of (front-idles r known (no_cell (front h r) (sym (goal-at h r known) ∙ none))));
    goes_on = λ r goal w l is waited off. (
        let known = in-fleet r l in
        let found = goal-front m h r goal known is in
        let away : slice_index to r ≢ found.0.cell = λ e. off (ap (λ (p : List ℕ). slice_index p r) to-is ∙ e ∙ found.2) in (
          goal-after r known ∙ ap cell_of (front-stays r found.0 known found.1 away) ∙ ap Some found.2,
          wait-then r known ∙ waits-on r w found.0 known found.1 away (waits-so h r w known waited),
        ));
    anew = λ r goal v l is here waited. (
        let known = in-fleet r l in
        let found = goal-front m h r goal known is in
        begins-anew r v found.0 known found.1 (sym (ap (λ (p : List ℕ). slice_index p r) to-is) ∙ here ∙ sym found.2) (sym (wait-then r known) ∙ waited));
  }
