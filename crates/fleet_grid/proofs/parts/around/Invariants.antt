use Rattle.fleet_grid.proofs.Rounds.{HasTurned}
use Rattle.fleet_grid.proofs.parts.around.Given as goal

abbrev pub invariant-loop-dir : goal.invariant-loop-dir
invariant-loop-dir g l = HasTurned l.cells l.label l.head l.dir-index l.fn.labels l.fn.queue.items l.labels l.queue.items
