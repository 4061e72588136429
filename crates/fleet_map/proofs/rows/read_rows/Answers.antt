use Rattle.std.proofs.Common.{◌≡◌, ◌++◌}
use Rattle.std.proofs.lemmas.Result.{err_from_is_err_and}
use Rattle.fleet_map.specs.Text.{lines_of}
use Rattle.fleet_map.specs.Grammar.{row_at, rows_at}
use Rattle.fleet_map.proofs.RowLemmas.{is_fault, goes_on, ends, is_done}
use Rattle.fleet_map.proofs.rows.read_rows.Goals as goal

pub returns-in_err-line : goal.returns-in_err-line
returns-in_err-line g c =
    let p = err_from_is_err_and c.from_residual-in_err-line.result c.from_residual-in_err-line.ensures.1 in
    rw (p.1, p.2) (ends c.in_err-line.field-0.0 c.loop-row.cells.items c.args.height c.args.width c.loop-row.row (lines_of c.loop-row.rest.now) (rows_at c.args.height c.args.width 0 (lines_of c.args.text.now)) c.loop-row-test.true (is_fault c.in_err-line.field-0.0 (row_at c.args.width c.loop-row.row (lines_of c.loop-row.rest.now)) c.in_err-line.ensures) c.loop-row.invariant)

pub loop-row-preserved : goal.loop-row-preserved
loop-row-preserved g c =
    let e : c.extend_from_slice.new.self.items ≡ c.loop-row.cells.items ++ c.in_ok-line.line.now = c.in_ok-extend_from_slice.ensures.items in
    rw e (goes_on c.loop-row.cells.items c.args.height c.args.width c.loop-row.row (lines_of c.loop-row.rest.now) c.in_ok-line.line.now (lines_of c.in_ok-line.after.now) (rows_at c.args.height c.args.width 0 (lines_of c.args.text.now)) c.loop-row-test.true c.in_ok-line.ensures c.loop-row.invariant)

pub returns : goal.returns
returns g c = is_done c.loop-row.cells.items c.args.height c.args.width c.loop-row.row (lines_of c.loop-row.rest.now) (rows_at c.args.height c.args.width 0 (lines_of c.args.text.now)) c.loop-row-test.false c.loop-row.invariant
