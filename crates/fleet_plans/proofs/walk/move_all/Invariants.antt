use Rattle.std.proofs.Common.{◌≡◌, ◌<◌, ◌≤◌, ℕ, slice_index}
use Rattle.fleet_plans.specs.Tracks.{moved, letter_at}
use Rattle.fleet_plans.specs.Shown.{texts}
use Rattle.fleet_plans.proofs.walk.move_all.Given as goal

abbrev pub invariant-loop-robot : goal.invariant-loop-robot
invariant-loop-robot l = record {
  done : (r : ℕ) → r < l.robot → slice_index l.place r ≡ moved l.sides.width l.sides.height (slice_index l.initial.place r) (letter_at (texts l.tracks) r l.time);
  rest : (r : ℕ) → l.robot ≤ r → slice_index l.place r ≡ slice_index l.initial.place r;
}
