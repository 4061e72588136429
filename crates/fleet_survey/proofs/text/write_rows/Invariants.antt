use Rattle.std.proofs.Common.{◌≡◌, ◌++◌, string_bytes}
use Rattle.fleet_survey.specs.MapText.{rows_below}
use Rattle.fleet_survey.proofs.text.write_rows.Given as goal

abbrev pub invariant-loop-cell : goal.invariant-loop-cell
invariant-loop-cell l = string_bytes l.out ≡ string_bytes l.fn.out ++ rows_below l.grid l.width l.cell
