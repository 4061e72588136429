use Rattle.std.proofs.Common.{ℕ, ◌<◌}
use Rattle.fleet_bridge.specs.inside.Preorder.{IsListedIn}
use Rattle.fleet_bridge.proofs.preorder.are_listed.Given as goal

abbrev pub invariant-loop-place : goal.invariant-loop-place
invariant-loop-place g l = (k : ℕ) → k < l.place → IsListedIn l.sides l.tree k
