use Rattle.std.proofs.Common.{◌≡◌, ◌≢◌, ◌<◌, ◌≤◌, ℕ, Some}
use Rattle.std.specs.Prelude.{slice_get}
use Rattle.fleet_lanes.specs.Ends.{ClientView}
use Rattle.fleet_office.proofs.homing.place_of.Given as goal

abbrev pub invariant-loop-k : goal.invariant-loop-k
invariant-loop-k g l = (k : ℕ) (x : ClientView g.row.A.Denot) → l.from ≤ k → k < l.k → slice_get l.clients k ≡ Some x → x.number ≢ l.number
