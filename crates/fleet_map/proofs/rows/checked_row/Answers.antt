-- The row of the map's width, with letters alone or with the first byte that is none.
use Rattle.std.proofs.Common.{◌≡◌, eqb, true, length, Some, None, refl, sym, eq-eqb}
use Rattle.fleet_map.specs.Grammar.{odd_cell}
use Rattle.fleet_map.proofs.rows.checked_row.Goals as goal

pub returns-in-None : goal.returns-in-None
returns-in-None c =
    let n = length c.args.cells.now in
    let wide : eqb n c.args.width ≡ true = eq-eqb n c.args.width c.if-cells-width.false in
    let none : odd_cell c.args.cells.now ≡ None = sym c.in-None.ensures in
    rw (wide, none) refl

pub returns-in-Some : goal.returns-in-Some
returns-in-Some c =
    let n = length c.args.cells.now in
    let wide : eqb n c.args.width ≡ true = eq-eqb n c.args.width c.if-cells-width.false in
    let some : odd_cell c.args.cells.now ≡ Some c.in-Some.col = sym c.in-Some.ensures in
    rw (wide, some) refl
