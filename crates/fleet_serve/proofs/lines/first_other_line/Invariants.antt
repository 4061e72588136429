use Rattle.std.proofs.Common.{ℕ, ◌<◌, slice_index_or}
use Rattle.fleet_script.specs.declared.run.Run.{Run}
use Rattle.fleet_serve.specs.Posted.{IsLine}
use Rattle.fleet_serve.proofs.lines.first_other_line.Given as goal

abbrev pub invariant-loop-at : goal.invariant-loop-at
invariant-loop-at l = (k : ℕ) (d : Run) → k < l.at → IsLine l.script.clients (slice_index_or l.script.runs.items k d).event
