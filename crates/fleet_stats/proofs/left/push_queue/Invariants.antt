use Rattle.std.proofs.Common.{◌≡◌, ◌++◌, drop, map}
use Rattle.fleet_stats.specs.Noted.{left_by}
use Rattle.fleet_stats.proofs.left.push_queue.Given as goal

abbrev pub invariant-loop-place : goal.invariant-loop-place
invariant-loop-place l = l.left.items ++ map (left_by l.robot) (drop l.place l.queue.items) ≡ l.fn.left.items ++ map (left_by l.robot) l.queue.items
