-- Each conversation that is added is new.
use Rattle.std.proofs.Common.{sym, subst}
use Rattle.fleet_live.specs.Begin.{AreNew}
use Rattle.fleet_live.proofs.conversations.conversations_of.Goals as goal

pub add-requires-after_bounds : goal.add-requires-after_bounds
add-requires-after_bounds g c κs bounds = subst AreNew (sym c.in_ok-all.ensures) tt

pub loop-one-init : goal.loop-one-init
loop-one-init g c = c.in_ok-add.ensures

pub add-requires-in-loop-one-after_bounds : goal.add-requires-in-loop-one-after_bounds
add-requires-in-loop-one-after_bounds g c κs bounds = c.loop-one.invariant

pub loop-one-preserved : goal.loop-one-preserved
loop-one-preserved g c = c.in_ok-add-2.ensures

pub returns : goal.returns
returns g c = c.loop-one.invariant
