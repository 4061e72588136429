use Rattle.std.proofs.Common.{◌≡◌, ◌++◌, drop, map}
use Rattle.fleet_stats.specs.Rows.{left_row_of}
use Rattle.fleet_stats.proofs.errands.push_all_left.Given as goal

abbrev pub invariant-loop-left : goal.invariant-loop-left
invariant-loop-left l = l.rows.items ++ map (left_row_of l.clients (map (λ one. one.items) l.times)) (drop l.left-index l.lefts) ≡ l.fn.rows.items ++ map (left_row_of l.clients (map (λ one. one.items) l.times)) l.lefts
