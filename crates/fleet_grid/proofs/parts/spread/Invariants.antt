use Rattle.std.proofs.Common.{◌+◌, ◌-◌, length}
use Rattle.fleet_grid.specs.inside.Parts.{bare_count}
use Rattle.fleet_grid.proofs.Rounds.{HasKept}
use Rattle.fleet_grid.proofs.parts.spread.Given as goal

abbrev pub invariant-loop-head : goal.invariant-loop-head
invariant-loop-head g l = HasKept l.cells l.start l.head l.fn.labels l.labels l.queue.items

abbrev pub decreases-loop-head : goal.decreases-loop-head
decreases-loop-head g l = bare_count l.labels + (length l.queue.items - l.head)
