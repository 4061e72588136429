use Rattle.std.proofs.Common.{◌≡◌, ◌++◌, drop, string_bytes}
use Rattle.fleet_view.specs.Picture.{flags_over}
use Rattle.fleet_view.proofs.arrivals.write_flags.Given as goal

abbrev pub invariant-loop-entry : goal.invariant-loop-entry
invariant-loop-entry l = string_bytes l.out ++ flags_over l.robot (drop l.entry-index l.entries) ≡ string_bytes l.fn.out ++ flags_over l.robot l.entries
