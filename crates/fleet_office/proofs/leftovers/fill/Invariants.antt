use Rattle.fleet_office.proofs.Uncollected.{Rested}
use Rattle.fleet_office.proofs.leftovers.fill.Given as goal

abbrev pub invariant-loop-k : goal.invariant-loop-k
invariant-loop-k g l = Rested l.k l.rooms.items l.core l.fn.core l.fn.clients l.clients
