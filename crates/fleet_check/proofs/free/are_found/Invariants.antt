use Rattle.fleet_check.specs.inside.Slots.{AreFound}
use Rattle.fleet_check.proofs.free.are_found.Given as goal

abbrev pub invariant-loop-robot : goal.invariant-loop-robot
invariant-loop-robot l = record {
  all : AreFound l.slots l.to l.robot;
}
