use Rattle.std.proofs.Common.{◌*◌}
use Rattle.fleet_field.specs.inside.Labels.{ArePointed}
use Rattle.fleet_field.proofs.bits.point_rows.Given as goal

abbrev pub invariant-loop-row : goal.invariant-loop-row
invariant-loop-row l = ArePointed l.width l.stride l.labels l.ways (l.row * l.width) l.bytes
