-- The site of an opening in order is in order.
use Rattle.fleet_grid.specs.Floor.{floor_of}
use Rattle.fleet_refit.proofs.First.{first-copied}
use Rattle.fleet_refit.proofs.site.Site.new.Goals as goal

pub returns-clause-in_order : goal.returns-clause-in_order
returns-clause-in_order g c =
    first-copied (floor_of c.args.map.height c.args.map.width c.args.map.cells.items) c.args.opening.now c.in_ok-clients.clients c.in_ok-seats.seats.items c.in_ok-clients.ensures c.in_ok-seats.ensures
