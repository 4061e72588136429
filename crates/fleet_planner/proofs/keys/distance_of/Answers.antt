use Rattle.std.proofs.Common.{sym}
use Rattle.fleet_planner.specs.Keys.{key_at}
use Rattle.fleet_planner.proofs.Fields.{distance_shown}
use Rattle.fleet_planner.proofs.keys.distance_of.Goals as goal

pub returns : goal.returns
returns g c =
    let key = sym c.in_ok-key.ensures in
    distance_shown c.args.store.now (key_at c.args.keys.now c.args.robot) c.in_ok-key.key c.args.cell c.at.result key (c.requires c.args.robot c.in_ok-key.key key) c.at.ensures
