-- A turn's tick is the last entry of the history that it leaves.
use Rattle.std.proofs.Common.{◌≡◌, ℕ, zero, suc, List, [], ◌∷◌, ◌++◌, length, ap, sym, ◌∙◌, arith}
use Rattle.fleet_grid.specs.Floor.{Floor}
use Rattle.fleet_history.specs.declared.history.Arrival.{Arrival}
use Rattle.fleet_history.specs.declared.history.Bye.{Bye}
use Rattle.fleet_history.specs.declared.history.Entry.{Entry}
use Rattle.fleet_history.specs.declared.history.Entry.TheVariants as entry
use Rattle.fleet_history.specs.History.{History, after, with_entries, place, clock}
use Rattle.fleet_history.specs.Legal.{IsLegal, IsTickAfter}
use Rattle.fleet_history.proofs.After.{place-after}
use Rattle.fleet_history.proofs.Legal.{legal-opening, length-place, fits-at}
use Rattle.fleet_history.proofs.Places.{legal-before}
use Rattle.fleet_core.specs.Core.{World}
use Rattle.fleet_core.proofs.TickFacts.{arrived-few, leaving-few}
use Rattle.fleet_office.specs.declared.report.TurnReport.{TurnReport}
use Rattle.fleet_office.specs.Hall.{HallView, GivesFrom, Turns}
use Rattle.fleet_office.specs.Shown.{IsLastTick}
use Rattle.fleet_office.specs.Views.{TickView}
use Rattle.fleet_office.specs.inside.LastTicks.{EndsInTick, IsEndOf}

module _ {A : Type 0} where
  -- a give changes no history
  given-history : (k : ℕ) (h : HallView A) (n : ℕ) (g : HallView A) → GivesFrom k h n g → g.world.history ≡ h.world.history
  given-history zero h n g s = ap (λ (x : HallView A). x.world.history) s.0
  given-history (suc k) h n g s = ap (λ (w : World A). w.history) s.4.gives.world ∙ given-history k h s.1 s.0 s.3

  turned-history : (h g : HallView A) (r : TurnReport) (t : Turns h r g) →
      g.world.history ≡ after t.taken.world.history (entry.Tick t.ticks.ticks.to t.ticks.ticks.arrived t.ticks.ticks.farewells)
  turned-history h g r t = given-history (length t.ticked.ends) t.ticked t.last g t.gives_again ∙ ap (λ (w : World A). w.history) t.ticks.ticks.world

  -- a tick of a legal history shows no more than 512 robots
  ends-in_tick : (m : Floor) (h : History A) (before : List (Entry A)) (to : List ℕ) (arrived : List Arrival) (farewells : List Bye) → IsLegal m h →
      h.entries ≡ before ++ entry.Tick to arrived farewells ∷ [] → EndsInTick h.entries
  ends-in_tick m h before to arrived farewells legal is =
      let was : IsLegal m (with_entries h before) = legal-before m h before (entry.Tick to arrived farewells ∷ []) legal is in
      let fits : IsTickAfter m (with_entries h before) to arrived farewells = fits-at m h before [] (entry.Tick to arrived farewells) legal is in
      record {
        before = before;
        to = to;
        arrived = arrived;
        farewells = farewells;
        last = is;
        few = omega (arith, fits.step.same_length, length-place m (with_entries h before) was, (legal-opening m (with_entries h before) was).few_robots);
        few_arrived = arrived-few m (with_entries h before) was to arrived fits.shows;
        few_farewells = leaving-few m (with_entries h before) was to arrived fits.shows farewells farewells fits.leaves;
      }

  pub turned-ends : (h g : HallView A) (r : TurnReport) → IsLegal g.world.floor g.world.history → Turns h r g → EndsInTick g.world.history.entries
  turned-ends h g r legal t =
      ends-in_tick g.world.floor g.world.history t.taken.world.history.entries t.ticks.ticks.to t.ticks.ticks.arrived t.ticks.ticks.farewells legal
      (ap (λ (x : History A). x.entries) (turned-history h g r t))

  pub is-last : (w : World A) (t : TickView) → t.tick ≡ clock w.history → IsEndOf w.history.entries t → IsLastTick w t
  is-last w t tick e = record {
    before = e.before;
    last = e.last;
    tick = tick;
    placement = sym (ap (λ es. place (with_entries w.history es)) e.last ∙ place-after (with_entries w.history e.before) (entry.Tick t.placement t.arrived t.farewells));
  }
