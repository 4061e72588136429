use Rattle.std.proofs.Common.{ap, ◌∙◌, Err}
use Rattle.fleet_core.specs.declared.faults.OpenFault.TheVariants.{Limits, NoRobots, Start, Shared, Hooks}
use Rattle.fleet_c.proofs.Counted.{counted, refused_as}
use Rattle.fleet_c.proofs.opening.core_of.Goals as goal

pub unreachable-requires : goal.unreachable-requires
unreachable-requires g c =
    let refused = (c.open.ensures.refused Hooks tt).0 (c.in-Err-Hooks.is ∙ ap Err c.in-Err-Hooks.field-0-is) in
    refused.3 (counted c.args.robots.now _ _ c.requires.starts c.requires.laws)

pub returns-in-Err-Limits-clause-err : goal.returns-in-Err-Limits-clause-err
returns-in-Err-Limits-clause-err g c =
    refused_as c.args.grid c.args.setup.now.clients Limits c.requires.starts c.limits.ensures c.requires.laws ((c.open.ensures.refused Limits tt).0 (c.in-Err-Limits.is ∙ ap Err c.in-Err-Limits.field-0-is))

pub returns-in-Err-NoRobots-clause-err : goal.returns-in-Err-NoRobots-clause-err
returns-in-Err-NoRobots-clause-err g c =
    refused_as c.args.grid c.args.setup.now.clients NoRobots c.requires.starts c.limits.ensures c.requires.laws ((c.open.ensures.refused NoRobots tt).0 (c.in-Err-NoRobots.is ∙ ap Err c.in-Err-NoRobots.field-0-is))

pub returns-in-Err-Start-clause-err : goal.returns-in-Err-Start-clause-err
returns-in-Err-Start-clause-err g c =
    refused_as c.args.grid c.args.setup.now.clients (Start _) c.requires.starts c.limits.ensures c.requires.laws ((c.open.ensures.refused (Start _) tt).0 (c.in-Err-Start.is ∙ ap Err c.in-Err-Start.field-0-is))

pub returns-in-Err-Shared-clause-err : goal.returns-in-Err-Shared-clause-err
returns-in-Err-Shared-clause-err g c =
    refused_as c.args.grid c.args.setup.now.clients (Shared _ _) c.requires.starts c.limits.ensures c.requires.laws ((c.open.ensures.refused (Shared _ _) tt).0 (c.in-Err-Shared.is ∙ ap Err c.in-Err-Shared.field-0-is))
