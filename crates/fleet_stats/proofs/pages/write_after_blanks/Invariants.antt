use Rattle.std.proofs.Common.{◌≡◌, ◌++◌, drop, string_bytes}
use Rattle.fleet_stats.specs.Text.{blank_before}
use Rattle.fleet_stats.proofs.pages.write_after_blanks.Given as goal

abbrev pub invariant-loop-number : goal.invariant-loop-number
invariant-loop-number l = string_bytes l.out ++ blank_before (drop l.number-index l.numbers) ≡ string_bytes l.fn.out ++ blank_before l.numbers
