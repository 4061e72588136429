use Rattle.std.proofs.Common.{◌≡◌, ◌++◌, drop, map}
use Rattle.fleet_stats.specs.Rows.{measured}
use Rattle.fleet_stats.proofs.measure.push_measured.Given as goal

abbrev pub invariant-loop-place : goal.invariant-loop-place
invariant-loop-place l = record { rows : l.rows.items ++ map (measured l.grid) (drop l.place l.served) ≡ l.fn.rows.items ++ map (measured l.grid) l.served }
