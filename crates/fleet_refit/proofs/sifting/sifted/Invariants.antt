use Rattle.std.proofs.Common.{◌≡◌, ◌++◌, take}
use Rattle.std.specs.Prelude.{map}
use Rattle.fleet_refit.specs.Sifting.{Sifts, dropped_of}
use Rattle.fleet_refit.proofs.sifting.sifted.Given as goal

abbrev pub invariant-loop-place : goal.invariant-loop-place
invariant-loop-place g l = (gone : _) × Sifts (g.S.Stays.stays l.which) (take l.place l.errands) l.kept.items gone × (l.dropped.items ≡ l.fn.dropped.items ++ map (dropped_of l.robot) gone)
