use Rattle.std.proofs.Common.{◌≡◌, ◌<◌, ℕ, false}
use Rattle.fleet_check.specs.inside.Slots.{is_swap}
use Rattle.fleet_check.proofs.free.is_without_swap.Given as goal

abbrev pub invariant-loop-robot : goal.invariant-loop-robot
invariant-loop-robot l = record {
  none : (r : ℕ) → r < l.robot → is_swap l.slots l.from l.to r ≡ false;
}
