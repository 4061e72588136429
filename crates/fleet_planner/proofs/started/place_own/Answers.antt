use Rattle.std.proofs.Common.{refl}
use Rattle.fleet_planner.proofs.Starts.{placing-all}
use Rattle.fleet_planner.proofs.started.place_own.Goals as goal

pub loop-at-init : goal.loop-at-init
loop-at-init g c = record { placing = record { known = refl; count = refl; places = refl }; room = refl }

pub returns-clause-placed : goal.returns-clause-placed
returns-clause-placed g c = placing-all c.args.turns.now c.args.fresh.now.items c.args.own.now.items c.loop-at.at c.loop-at.fresh.items c.loop-at.own.items c.loop-at-test.false c.loop-at.invariant.placing
