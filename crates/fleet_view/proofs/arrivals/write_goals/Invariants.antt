use Rattle.std.proofs.Common.{◌≡◌, ◌++◌, drop, string_bytes}
use Rattle.fleet_view.specs.Picture.{goals_over}
use Rattle.fleet_view.proofs.arrivals.write_goals.Given as goal

abbrev pub invariant-loop-entry : goal.invariant-loop-entry
invariant-loop-entry l = string_bytes l.out ++ goals_over l.width l.robot (drop l.entry-index l.entries) ≡ string_bytes l.fn.out ++ goals_over l.width l.robot l.entries
