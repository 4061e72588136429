use Rattle.std.proofs.Common.{◌≡◌, ◌++◌, string_bytes}
use Rattle.fleet_stats.specs.Tallies.{tally_of}
use Rattle.fleet_stats.specs.Text.{tallies_below}
use Rattle.fleet_stats.proofs.tallies.write_tallies.Given as goal

abbrev pub invariant-loop-key : goal.invariant-loop-key
invariant-loop-key l = string_bytes l.out ≡ string_bytes l.fn.out ++ tallies_below (tally_of l.owner l.rows l.left) l.key
