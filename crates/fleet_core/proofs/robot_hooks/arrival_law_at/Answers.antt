use Rattle.std.proofs.Common.{refl}
use Rattle.fleet_core.proofs.Matches.{word_there}
use Rattle.fleet_core.proofs.robot_hooks.arrival_law_at.Goals as goal

pub returns : goal.returns
returns g c = word_there (λ x. x.arrival_law) c.args.robots.now c.args.r c.index-robots-r.result _ c.requires refl
