use Rattle.std.proofs.Common.{◌≡◌, ◌<◌, ℕ, Some}
use Rattle.std.specs.Prelude.{slice_get}
use Rattle.fleet_lanes.specs.Ends.{ClientView}
use Rattle.fleet_office.proofs.homing.missing.Given as goal

abbrev pub invariant-loop-c : goal.invariant-loop-c
invariant-loop-c g l = (c : ℕ) → c < l.c → (k : ℕ) × (x : ClientView g.row.A.Denot) × (slice_get l.clients k ≡ Some x) × (x.number ≡ c)
