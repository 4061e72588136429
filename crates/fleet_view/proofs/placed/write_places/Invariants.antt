use Rattle.std.proofs.Common.{◌≡◌, ◌++◌}
use Rattle.fleet_view.specs.Placed.{lines_below}
use Rattle.fleet_view.proofs.placed.write_places.Given as goal

abbrev pub invariant-loop-time : goal.invariant-loop-time
invariant-loop-time l = l.out.items ≡ l.fn.out.items ++ lines_below l.width l.places l.time
