use Rattle.std.proofs.Common.{◌≡◌, ◌++◌, drop, string_bytes}
use Rattle.std.specs.List.{flat_map}
use Rattle.fleet_stats.specs.Text.{left_line}
use Rattle.fleet_stats.proofs.tables.write_all_left.Given as goal

abbrev pub invariant-loop-row : goal.invariant-loop-row
invariant-loop-row l = string_bytes l.out ++ flat_map left_line (drop l.row-index l.rows) ≡ string_bytes l.fn.out ++ flat_map left_line l.rows
