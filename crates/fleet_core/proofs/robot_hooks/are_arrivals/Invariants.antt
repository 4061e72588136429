use Rattle.std.proofs.Common.{◌≡◌, ◌<◌, ℕ, map}
use Rattle.std.specs.Prelude.{slice_get}
use Rattle.fleet_core.proofs.robot_hooks.are_arrivals.Given as goal

abbrev pub invariant-loop-r : goal.invariant-loop-r
invariant-loop-r g l = (j : ℕ) → j < l.r → slice_get (map (λ h. h.law) l.arrivals) j ≡ slice_get (map (λ x. x.arrival_law) l.robots) j
