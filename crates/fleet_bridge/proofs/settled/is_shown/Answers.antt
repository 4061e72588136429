-- A tree that passed its checks shows the numbers.
use Rattle.std.proofs.Common.{arith}
use Rattle.fleet_bridge.proofs.Settling.{shown}
use Rattle.fleet_bridge.proofs.settled.is_shown.Goals as goal

pub are_settled-requires : goal.are_settled-requires
are_settled-requires g c = c.requires.tree.spanning

pub returns : goal.returns
returns g c = λ yes.
    shown c.args.sides.now c.args.tree.now c.args.most.now.items c.requires.tree.spanning c.requires.tree.walk (c.are_settled.ensures yes) (omega (arith, c.requires.size, c.args.most.now.ok.0))
