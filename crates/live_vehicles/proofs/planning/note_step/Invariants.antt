-- The robots before this one are noted, and no other.
use Rattle.std.proofs.Common.{◌≡◌, ℕ, ◌<◌, ◌≤◌, length, get_or}
use Rattle.live_vehicles.specs.Places.{place_of, stepped}
use Rattle.live_vehicles.proofs.planning.note_step.Given as goal

abbrev pub invariant-loop-robot : goal.invariant-loop-robot
invariant-loop-robot l = record {
  size : length l.places.items ≡ length l.fn.places.items;
  noted : (r : ℕ) → r < l.robot → place_of l.places.items r ≡ stepped l.step (get_or l.to r 0) (place_of l.fn.places.items r);
  left : (r : ℕ) → l.robot ≤ r → place_of l.places.items r ≡ place_of l.fn.places.items r;
}
