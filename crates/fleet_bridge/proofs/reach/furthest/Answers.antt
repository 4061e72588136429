use Rattle.std.proofs.Common.{sym, ◌∙◌}
use Rattle.fleet_bridge.proofs.Inner.{under_own}
use Rattle.fleet_bridge.proofs.reach.furthest.Goals as goal

pub hand_all_up-requires : goal.hand_all_up-requires
hand_all_up-requires g c = under_own c.args.up.now.items c.args.count c.in_ok-inner.inner.items (sym c.in_ok-inner.inner.ok.0 ∙ c.in_ok-inner.ensures.size) c.in_ok-inner.ensures.own

pub returns : goal.returns
returns g c = c.hand_all_up.ensures
