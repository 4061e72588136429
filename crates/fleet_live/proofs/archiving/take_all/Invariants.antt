-- What was taken so far waits.
use Rattle.fleet_live.specs.Taken.{TakesChapters}
use Rattle.fleet_live.proofs.archiving.take_all.Given as goal

abbrev pub invariant-loop-taken : goal.invariant-loop-taken
invariant-loop-taken g l = TakesChapters l.fn.ring l.ring l.fn.archive.waiting l.archive.waiting
