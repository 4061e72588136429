use Rattle.fleet_bridge.proofs.Capped.{capped_around}
use Rattle.fleet_bridge.proofs.caps.cap_around.Goals as goal

pub returns : goal.returns
returns g c =
    capped_around c.args.grid.now c.args.cell c.args.most.now.items c.cap_beside.new.most.items c.cap_beside-2.new.most.items c.cap_beside-3.new.most.items c.cap_beside-4.new.most.items
    c.in_ok-cap_beside.ensures c.in_ok-cap_beside-2.ensures c.in_ok-cap_beside-3.ensures c.in_ok-cap_beside-4.ensures
