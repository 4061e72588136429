use Rattle.fleet_field.specs.inside.Laid.{AreLaid}
use Rattle.fleet_field.proofs.bits.lay_rows.Given as goal

abbrev pub invariant-loop-row : goal.invariant-loop-row
invariant-loop-row l = AreLaid l.row l.width l.stride l.ways l.labels
