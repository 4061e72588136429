use Rattle.std.proofs.Common.{◌≡◌, ◌-◌}
use Rattle.fleet_map.specs.Text.{lines_of}
use Rattle.fleet_map.specs.Grammar.{rows_at}
use Rattle.fleet_map.proofs.RowLemmas.{with_front}
use Rattle.fleet_map.proofs.rows.read_rows.Given as goal

abbrev pub invariant-loop-row : goal.invariant-loop-row
invariant-loop-row g l = with_front l.cells.items (rows_at (l.height - l.row) l.width l.row (lines_of l.rest)) ≡ rows_at l.height l.width 0 (lines_of l.text)
