use Rattle.std.proofs.Common.{◌<◌}
use Rattle.fleet_history.specs.History.{clients}
use Rattle.quickstart.proofs.play.Given as goal

abbrev pub invariant-loop-robot : goal.invariant-loop-robot
invariant-loop-robot g l = 0 < clients l.world.core.history

abbrev pub invariant-loop : goal.invariant-loop
invariant-loop g l = 0 < clients l.world.core.history

abbrev pub invariant-loop-2 : goal.invariant-loop-2
invariant-loop-2 g l = 0 < clients l.world.core.history
