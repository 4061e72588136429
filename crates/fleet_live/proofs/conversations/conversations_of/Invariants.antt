-- Nothing was handed on so far.
use Rattle.fleet_live.specs.Begin.{AreNew}
use Rattle.fleet_live.proofs.conversations.conversations_of.Given as goal

abbrev pub invariant-loop-one : goal.invariant-loop-one
invariant-loop-one g l = AreNew l.all.texts.items
