-- There are at most 512.
use Rattle.std.proofs.Common.{arith}
use Rattle.fleet_history.proofs.Legal.{legal-opening}
use Rattle.live_fleet.proofs.roll.robot_count.Goals as goal

pub overflow_cast-result : goal.overflow_cast-result
overflow_cast-result g c =
    let few = (legal-opening c.args.session.now.world.core.floor c.args.session.now.world.core.history c.chapter-chapter.ensures.legal).few_robots in
    omega (arith, few, c.robots.ensures)
