use Rattle.std.proofs.Common.{◌≡◌, take}
use Rattle.fleet_core.specs.Hooks.{laws_of}
use Rattle.fleet_c.specs.Forms.{laws_of_robots}
use Rattle.fleet_c.proofs.reopening.laws_of_ranks.Given as goal

abbrev pub invariant-loop-robot : goal.invariant-loop-robot
invariant-loop-robot l = laws_of l.hooks ≡ laws_of_robots (take l.robot-index l.robots)
