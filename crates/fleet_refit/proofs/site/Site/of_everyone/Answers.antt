-- A site that was taken apart is itself again.
use Rattle.std.proofs.Common.{◌∙◌, ap}
use Rattle.fleet_grid.specs.Floor.{floor_of}
use Rattle.fleet_refit.specs.Everyone.{seats_of}
use Rattle.fleet_refit.proofs.Apart.{apart-copied}
use Rattle.fleet_refit.proofs.site.Site.of_everyone.Goals as goal

pub returns-clause-again : goal.returns-clause-again
returns-clause-again g c s is =
    apart-copied s (floor_of c.args.map.height c.args.map.width c.args.map.cells.items) c.args.everyone.now c.args.standings.now c.in_ok-clients.clients c.in_ok-seats.seats.items
    c.in_ok-clients.ensures (c.in_ok-seats.ensures.exact ∙ ap (seats_of c.args.standings.now) c.as_slice.ensures) is
