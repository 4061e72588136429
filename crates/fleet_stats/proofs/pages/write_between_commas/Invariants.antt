use Rattle.std.proofs.Common.{◌≡◌, ◌++◌, drop, string_bytes}
use Rattle.fleet_stats.specs.Text.{commas_from}
use Rattle.fleet_stats.proofs.pages.write_between_commas.Given as goal

abbrev pub invariant-loop-place : goal.invariant-loop-place
invariant-loop-place l = string_bytes l.out ++ commas_from l.place (drop l.place l.numbers) ≡ string_bytes l.fn.out ++ commas_from 0 l.numbers
