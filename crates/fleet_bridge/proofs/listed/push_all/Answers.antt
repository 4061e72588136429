use Rattle.std.proofs.Common.{◌≡◌, ◌≤◌, length, ap, subst, ◌∙◌, arith}
use Rattle.fleet_grid.specs.Floor.{Floor, HasForm, IsNeighbour}
use Rattle.fleet_bridge.proofs.Listing.{listed_none, listed_all}
use Rattle.fleet_bridge.proofs.listed.push_all.Goals as goal

pub loop-cell-init : goal.loop-cell-init
loop-cell-init g c = listed_none (IsNeighbour c.args.sides.now) c.args.list.now.items c.requires.none

pub returns : goal.returns
returns g c =
    let m = c.args.sides.now in
    let cells : c.cell_count-cell-end.result ≡ length m.letters = c.cell_count-cell-end.ensures.value ∙ ap (λ (f : Floor). length f.letters) c.grid.ensures in
    let le : length m.letters ≤ c.loop-cell.cell = omega (arith, cells, c.loop-cell-test.false) in
    listed_all m c.loop-cell.cell c.loop-cell.list.items le c.loop-cell.invariant

pub push_from-requires-clause-form : goal.push_from-requires-clause-form
push_from-requires-clause-form g c = subst HasForm c.grid.ensures c.cell_count-cell-end.ensures.form
