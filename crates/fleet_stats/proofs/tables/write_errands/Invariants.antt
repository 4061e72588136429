use Rattle.std.proofs.Common.{◌≡◌, ◌++◌, drop, string_bytes}
use Rattle.std.specs.List.{flat_map}
use Rattle.fleet_stats.specs.Text.{errand_line}
use Rattle.fleet_stats.proofs.tables.write_errands.Given as goal

abbrev pub invariant-loop-row : goal.invariant-loop-row
invariant-loop-row l = string_bytes l.out ++ flat_map errand_line (drop l.row-index l.rows) ≡ string_bytes l.fn.out ++ flat_map errand_line l.rows
