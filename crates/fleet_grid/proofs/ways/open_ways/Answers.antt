use Rattle.fleet_grid.proofs.Opens.{four_open}
use Rattle.fleet_grid.proofs.ways.open_ways.Goals as goal

pub returns-clause-open : goal.returns-clause-open
returns-clause-open g c =
    four_open c.args.cells.now c.args.cell c.of.result.byte c.leads.result c.leads-2.result c.leads-3.result c.leads-4.result
    c.of.ensures.north c.of.ensures.east c.of.ensures.south c.of.ensures.west c.leads.ensures c.leads-2.ensures c.leads-3.ensures c.leads-4.ensures
