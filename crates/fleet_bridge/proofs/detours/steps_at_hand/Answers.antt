-- A walk with a hand at the wall.
use Rattle.fleet_bridge.proofs.Steps.{way_round}
use Rattle.fleet_bridge.proofs.detours.steps_at_hand.Goals as goal

pub returns-then-walker-from : goal.returns-then-walker-from
returns-then-walker-from g c =
    way_round c.args.places.now.grid.now c.args.places.now.stride c.args.from c.args.to.cell c.in_ok-walker.walker.spot c.in_ok-walker.ensures c.if-walker-from.true

pub next_around-requires-clause-laid_out : goal.next_around-requires-clause-laid_out
next_around-requires-clause-laid_out g c = c.requires.laid_out
