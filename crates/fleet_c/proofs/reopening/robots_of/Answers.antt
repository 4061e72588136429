use Rattle.std.proofs.Common.{◌≡◌, ◌≤◌, arith}
use Rattle.fleet_history.proofs.Legal.{legal-opening}
use Rattle.fleet_c.proofs.reopening.robots_of.Goals as goal

pub returns : goal.returns
returns c = omega (arith, c.clamped.ensures, c.robots.ensures, (legal-opening c.args.core.now.floor c.args.core.now.history c.chapter.ensures.legal).few_robots)
