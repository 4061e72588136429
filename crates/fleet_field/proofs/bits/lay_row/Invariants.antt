use Rattle.fleet_field.specs.inside.Laid.{HasLabels}
use Rattle.fleet_field.proofs.bits.lay_row.Given as goal

abbrev pub invariant-loop-column : goal.invariant-loop-column
invariant-loop-column l = HasLabels l.ways l.start l.first l.column l.initial.labels l.labels
