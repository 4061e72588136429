use Rattle.std.proofs.Common.{◌≡◌, ◌≢◌, ◌<◌, ℕ, Some}
use Rattle.std.specs.Prelude.{slice_get}
use Rattle.fleet_lanes.specs.Ends.{ClientView}
use Rattle.fleet_office.proofs.homing.twice.Given as goal

abbrev pub invariant-loop-k : goal.invariant-loop-k
invariant-loop-k g l = (i j : ℕ) (x y : ClientView g.row.A.Denot) → i < l.k → i < j → slice_get l.clients i ≡ Some x → slice_get l.clients j ≡ Some y → y.number ≢ x.number
