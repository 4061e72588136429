use Rattle.std.proofs.Common.{◌≡◌, drop, map}
use Rattle.fleet_history.specs.History.{place_after}
use Rattle.fleet_trace.proofs.chapters.turn.cells_after.Given as goal

abbrev pub invariant-loop-entry : goal.invariant-loop-entry
invariant-loop-entry l = place_after l.cells.items (drop l.entry-index l.entries) ≡ place_after (map (λ x. x.cell) l.robots) l.entries
