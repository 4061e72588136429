-- As many letters.
use Rattle.std.proofs.Common.{◌∙◌, ap, length}
use Rattle.fleet_site.proofs.Opened.{opened-length}
use Rattle.fleet_site.proofs.making.open_held.Goals as goal

pub returns-clause-length : goal.returns-clause-length
returns-clause-length c = ap length c.loop-robot.invariant ∙ opened-length c.args.letters.now.items c.args.standings.now c.args.robots.now c.loop-robot.robot
