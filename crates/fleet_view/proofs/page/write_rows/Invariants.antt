use Rattle.std.proofs.Common.{◌≡◌, ◌++◌, ◌*◌, ◌-◌, length}
use Rattle.fleet_view.specs.Page.{rows_text}
use Rattle.fleet_view.proofs.page.write_rows.Given as goal

abbrev pub invariant-loop-row : goal.invariant-loop-row
invariant-loop-row l = record {
  left : length l.rest ≡ (l.height - l.row) * l.width;
  written : l.out.items ++ rows_text (l.height - l.row) l.width l.rest ≡ l.fn.out.items ++ rows_text l.height l.width l.cells;
}
