use Rattle.std.proofs.Common.{ap, ◌∙◌}
use Rattle.fleet_core.proofs.Matches.{word_there}
use Rattle.fleet_core.proofs.robot_hooks.tie_at.Goals as goal

pub returns : goal.returns
returns g c = word_there (λ h. h.law) c.args.ties.now c.args.r c.index-ties-r.result c.law.result c.requires (c.law.ensures.value ∙ ap (λ h. h.law) c.index-ties-r.is)
