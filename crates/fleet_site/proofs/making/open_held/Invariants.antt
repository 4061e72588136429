use Rattle.std.proofs.Common.{◌≡◌}
use Rattle.fleet_site.specs.Make.{opened}
use Rattle.fleet_site.proofs.making.open_held.Given as goal

abbrev pub invariant-loop-robot : goal.invariant-loop-robot
invariant-loop-robot l = l.letters.items ≡ opened l.fn.letters.items l.standings l.robots l.robot
