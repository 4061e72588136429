-- The row that stands first, without the blanks after it.
use Rattle.std.proofs.Common.{refl}
use Rattle.std.proofs.lemmas.Result.{err_from_is_err_and}
use Rattle.fleet_map.proofs.rows.read_row.Goals as goal

pub returns-in_err-cells-in-Some : goal.returns-in_err-cells-in-Some
returns-in_err-cells-in-Some c =
    let p = err_from_is_err_and c.from_residual.result c.from_residual.ensures.1 in
    rw (p.1, p.2, c.in-Some.ensures.cut, ← c.trimmed_line.ensures, c.in_err-cells-in-Some.ensures) refl

pub returns-in_ok-cells-in-Some : goal.returns-in_ok-cells-in-Some
returns-in_ok-cells-in-Some c = rw (c.in-Some.ensures.cut, ← c.trimmed_line.ensures, c.in_ok-cells-in-Some.ensures) refl
