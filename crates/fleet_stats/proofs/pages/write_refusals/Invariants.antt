use Rattle.std.proofs.Common.{◌≡◌, ◌++◌, string_bytes}
use Rattle.fleet_stats.specs.Text.{refusals_below}
use Rattle.fleet_stats.proofs.pages.write_refusals.Given as goal

abbrev pub invariant-loop-code : goal.invariant-loop-code
invariant-loop-code l = string_bytes l.out ≡ string_bytes l.fn.out ++ refusals_below l.style l.kinds l.code
