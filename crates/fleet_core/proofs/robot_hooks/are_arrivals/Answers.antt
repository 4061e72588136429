use Rattle.std.proofs.Common.{refl, rules}
use Rattle.fleet_core.proofs.Matches.{alike-more, alike-maps}
use Rattle.fleet_core.proofs.robot_hooks.are_arrivals.Goals as goal

pub loop-r-preserved : goal.loop-r-preserved
loop-r-preserved g c = alike-more _ _ c.loop-r.r c.arrival_at-found.result c.arrival_law_at-wanted.result c.arrival_at-found.ensures c.arrival_law_at-wanted.ensures (c.if-not-is_stamp_law.ensures refl) c.loop-r.invariant

pub returns : goal.returns
returns g c = λ t. alike-maps (λ h. h.law) (λ x. x.arrival_law) c.args.arrivals.now c.args.robots.now c.loop-r.r (search rules) (search rules) c.loop-r.invariant
