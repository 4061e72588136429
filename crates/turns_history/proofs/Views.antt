-- A legal history is a fleet.
use Rattle.std.proofs.Common.{◌≡◌, ℕ, ◌+◌, ◌^◌, ◌<◌, ◌≤◌, inl, inr, List, length, map, Option, Some, None, sym, refl, ap, subst, ◌∙◌, arith}
use Rattle.std.specs.Prelude.{◌↔◌, IsSome, slice_index}
use Rattle.std.specs.List.{range_with_len}
use Rattle.std.proofs.lemmas.Bool.{cases_lt}
use Rattle.std.proofs.lemmas.List.{get_or_past, length-map}
use Rattle.std.proofs.lemmas.List.FromFn.{length-range_with_len}
use Rattle.fleet_grid.specs.Floor.{Floor, IsNeighbour}
use Rattle.fleet_grid.specs.Walk.{AreJoined}
use Rattle.fleet_queue.specs.declared.errand.Errand.{Errand}
use Rattle.fleet_history.specs.History.{History, robots, place, clock, front}
use Rattle.fleet_history.specs.Legal.{IsLegal}
use Rattle.fleet_history.specs.Waits.{wait, wait_for}
use Rattle.fleet_history.proofs.InOrder.{wait-within}
use Rattle.fleet_history.proofs.Legal.{legal-placement, length-place}
use Rattle.fleet_history.proofs.Reach.{front-reach}
use Rattle.fleet_pibt.specs.Order.{wait_of}
use Rattle.fleet_planner.specs.Planned.{waits, goals, cell_of}
use Rattle.fleet_planner.specs.Lending.{goal_at}
use Rattle.fleet_planner.proofs.Lists.{item_of}
use Rattle.fleet_bound.proofs.Moments.{goal-front}
use Rattle.turns_law.specs.Fleet.{IsFleet}
use Rattle.turns_history.specs.Fleets.{IsEarly, as_fleet}

module _ {A : Type 0} (h : History A) where
  pub length-waits : length (waits h) ≡ robots h
  length-waits = length-map (range_with_len 0 (robots h)) (wait h) ∙ length-range_with_len 0 (robots h)

  pub goal-at : (r : ℕ) → r < robots h → goal_at (goals h) r ≡ cell_of (front h r)
  goal-at r known = item_of (λ q. cell_of (front h q)) (robots h) r known

  pub wait-at : (r : ℕ) → r < robots h → wait_of (waits h) r ≡ wait h r
  wait-at r known = item_of (wait h) (robots h) r known

  pub waits-so : (r w : ℕ) → r < robots h → wait_of (waits h) r ≡ Some w → wait h r ≡ Some w
  waits-so r w known is = sym (wait-at r known) ∙ is

  waits-like : (r : ℕ) (o : Option Errand) → IsSome (cell_of o) ↔ IsSome (wait_for h r o)
  waits-like r None = ((λ s. s), (λ s. s))
  waits-like r (Some f) = ((λ s. refl), (λ s. refl))

  pub waited : (r : ℕ) → r < robots h → IsSome (goal_at (goals h) r) ↔ IsSome (wait_of (waits h) r)
  waited r known = rw (goal-at r known, wait-at r known) (waits-like r (front h r))

no_wait : (w : ℕ) → None ≡ Some w → w + 1 < 2 ^ 63
no_wait w e = cc

module _ {A : Type 0} (m : Floor) (h : History A) (legal : IsLegal m h) (early : IsEarly h) where
  early-at : (r w : ℕ) → wait_of (waits h) r ≡ Some w → w + 1 < 2 ^ 63
  early-at r w is = elim (cases_lt r (robots h)) [
    | inl known ↦ omega (arith, early, wait-within m h r w legal known (waits-so h r w known is))
    | inr past ↦ no_wait w (sym (get_or_past (waits h) r None (omega (arith, past, length-waits h))) ∙ is)
  ]

  reached-at : (r g : ℕ) → r < robots h → goal_at (goals h) r ≡ Some g → AreJoined (IsNeighbour m) (slice_index (place h) r) g
  reached-at r g known is =
      let found = goal-front m h r g known is in
      subst (λ (c : ℕ). AreJoined (IsNeighbour m) (slice_index (place h) r) c) found.2 (front-reach m h r found.0 legal known found.1).joined

  pub fleet-legal : IsFleet m (robots h) (as_fleet h)
  fleet-legal = record {
    robots = length-place m h legal;
    waiting = length-waits h;
    placed = legal-placement m h legal;
    waited = waited h;
    reached = reached-at;
    early = early-at;
  }
