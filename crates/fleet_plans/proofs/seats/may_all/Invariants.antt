use Rattle.std.proofs.Common.{◌<◌, ℕ, slice_index}
use Rattle.fleet_plans.specs.inside.Seats.{MayGo}
use Rattle.fleet_plans.proofs.seats.may_all.Given as goal

abbrev pub invariant-loop-k : goal.invariant-loop-k
invariant-loop-k l = (k : ℕ) → k < l.k → MayGo l.seats l.last l.place (slice_index l.robots k)
