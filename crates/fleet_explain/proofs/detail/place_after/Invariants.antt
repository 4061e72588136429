use Rattle.std.proofs.Common.{◌≡◌, drop}
use Rattle.fleet_history.specs.History.{place_after}
use Rattle.fleet_explain.proofs.detail.place_after.Given as goal

abbrev pub invariant-loop-entry : goal.invariant-loop-entry
invariant-loop-entry l = place_after l.place (drop l.entry-index l.entries) ≡ place_after l.cells l.entries
