use Rattle.std.proofs.Common.{◌≡◌, ◌++◌, take}
use Rattle.std.specs.Prelude.{map}
use Rattle.fleet_refit.specs.Sifting.{dropped_of}
use Rattle.fleet_refit.proofs.making.drop_all.Given as goal

abbrev pub invariant-loop-place : goal.invariant-loop-place
invariant-loop-place g l = l.dropped.items ≡ l.fn.dropped.items ++ map (dropped_of l.robot) (take l.place l.errands)
