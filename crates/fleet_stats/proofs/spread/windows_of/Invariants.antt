use Rattle.std.proofs.Common.{◌≡◌}
use Rattle.fleet_stats.specs.Figures.{windows_below}
use Rattle.fleet_stats.proofs.spread.windows_of.Given as goal

abbrev pub invariant-loop-window : goal.invariant-loop-window
invariant-loop-window l = l.sums.items ≡ windows_below l.numbers l.window
