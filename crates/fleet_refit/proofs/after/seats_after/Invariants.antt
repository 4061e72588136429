use Rattle.fleet_refit.proofs.SeatsAfter.{IsLeft}
use Rattle.fleet_refit.proofs.after.seats_after.Given as goal

abbrev pub invariant-loop-place : goal.invariant-loop-place
invariant-loop-place g l = IsLeft l.seats l.robots l.place l.next l.after.items
