use Rattle.std.proofs.Common.{◌≡◌, take}
use Rattle.fleet_trace.specs.inside.Opened.{owed_in}
use Rattle.fleet_trace.proofs.judging.clients.owed_of.Given as goal

abbrev pub invariant-loop-robot : goal.invariant-loop-robot
invariant-loop-robot g l = l.owed ≡ owed_in (take l.robot-index l.robots) l.client
