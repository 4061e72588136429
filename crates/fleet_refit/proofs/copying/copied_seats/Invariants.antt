use Rattle.std.proofs.Common.{◌≡◌, take}
use Rattle.fleet_refit.proofs.copying.copied_seats.Given as goal

abbrev pub invariant-loop-place : goal.invariant-loop-place
invariant-loop-place g l = l.copies.items ≡ take l.place l.seats
