use Rattle.std.proofs.Common.{◌≡◌, ◌<◌, ℕ, length, slice_index}
use Rattle.fleet_plans.specs.inside.Seats.{IsPartOf}
use Rattle.fleet_plans.proofs.judge.part.note_all.Given as goal

abbrev pub invariant-loop-k : goal.invariant-loop-k
invariant-loop-k l = record {
  last_count : length l.last ≡ length l.fn.last;
  costs_count : length l.costs ≡ length l.fn.costs;
  done : (k : ℕ) → k < l.k → slice_index l.robots k < length l.place → slice_index l.last (slice_index l.robots k) ≡ slice_index l.place (slice_index l.robots k);
  part : (r : ℕ) → r < length l.place → IsPartOf l.fn.last l.fn.costs l.place l.time l.last l.costs r;
}
