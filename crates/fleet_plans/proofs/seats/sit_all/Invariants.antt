use Rattle.std.proofs.Common.{◌<◌, ℕ, slice_index}
use Rattle.fleet_plans.specs.inside.Seats.{IsSeated}
use Rattle.fleet_plans.proofs.seats.sit_all.Given as goal

abbrev pub invariant-loop-k : goal.invariant-loop-k
invariant-loop-k l = record {
  sat : (k : ℕ) → k < l.k → IsSeated l.seats l.place (slice_index l.robots k);
  kept : (r : ℕ) → IsSeated l.fn.seats l.place r → IsSeated l.seats l.place r;
}
