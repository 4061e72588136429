use Rattle.std.proofs.Common.{refl, rules}
use Rattle.fleet_core.proofs.Matches.{alike-more, alike-map}
use Rattle.fleet_core.proofs.robot_hooks.are_ties.Goals as goal

pub loop-r-preserved : goal.loop-r-preserved
loop-r-preserved g c = alike-more _ c.args.laws.now c.loop-r.r c.tie_at-found.result c.law_at-wanted.result c.tie_at-found.ensures c.law_at-wanted.ensures (c.if-not-is_tie_law.ensures refl) c.loop-r.invariant

pub returns : goal.returns
returns g c = λ t. alike-map (λ h. h.law) c.args.ties.now c.args.laws.now c.loop-r.r (search rules) (search rules) c.loop-r.invariant
