-- The test of a number past the last cell.
use Rattle.std.proofs.Common.{◌≤◌, length, arith, le-ltb}
use Rattle.std.proofs.lemmas.List.{get_or_past}
use Rattle.fleet_grid.proofs.cells.Cells.is_floor.Goals as goal

pub returns-else-at-len : goal.returns-else-at-len
returns-else-at-len g c =
    let letters = c.self.inside.letters.items in
    let past : length letters ≤ c.args.cell = omega (arith, c.len.ensures) in
    rw (← c.self.view_is, get_or_past letters c.args.cell 0 past) (le-ltb c.args.cell c.len.result c.if-at-len.false)
