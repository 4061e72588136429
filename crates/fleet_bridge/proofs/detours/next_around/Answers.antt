-- A walk around the edge goes on.
use Rattle.fleet_bridge.proofs.Steps.{way_on}
use Rattle.fleet_bridge.proofs.detours.next_around.Goals as goal

pub returns : goal.returns
returns g c =
    let p = c.args.places.now in
    let next = c.in_ok-next.next in
    way_on p.grid.now p.stride c.args.from c.args.to next.dir c.args.walker.spot next.spot c.requires.way c.in_ok-next.ensures (c.is_across.ensures.no c.if-is_across.false)

pub next_step-requires-clause-laid_out : goal.next_step-requires-clause-laid_out
next_step-requires-clause-laid_out g c = c.requires.laid_out

pub next_step-requires-clause-spot : goal.next_step-requires-clause-spot
next_step-requires-clause-spot g c = c.requires.way.here
