use Rattle.std.proofs.Common.{◌+◌, ◌*◌}
use Rattle.fleet_field.specs.inside.Labels.{ArePointed}
use Rattle.fleet_field.proofs.bits.point_row.Given as goal

abbrev pub invariant-loop-column : goal.invariant-loop-column
invariant-loop-column l = ArePointed l.width l.stride l.labels l.ways (l.row * l.width + l.column) l.bytes
