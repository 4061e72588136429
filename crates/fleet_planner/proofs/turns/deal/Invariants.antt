use Rattle.fleet_planner.proofs.Turned.{AreDealing}
use Rattle.fleet_planner.proofs.turns.deal.Given as goal

abbrev pub invariant-loop-at : goal.invariant-loop-at
invariant-loop-at l = AreDealing l.turns l.fn.fresh l.fn.keys l.at l.fresh l.keys
