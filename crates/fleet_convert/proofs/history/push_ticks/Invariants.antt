use Rattle.std.proofs.Common.{◌≡◌, ◌++◌, drop}
use Rattle.fleet_convert.specs.History.{ticks_in}
use Rattle.fleet_convert.proofs.history.push_ticks.Given as goal

abbrev pub invariant-loop-entry : goal.invariant-loop-entry
invariant-loop-entry l = l.places ++ ticks_in (drop l.entry-index l.entries) ≡ l.fn.places ++ ticks_in l.entries
