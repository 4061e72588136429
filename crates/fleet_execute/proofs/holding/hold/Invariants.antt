-- The lines before this one were answered.
use Rattle.std.proofs.Common.{string_bytes}
use Rattle.fleet_execution.specs.Kept.{desk}
use Rattle.fleet_execute.proofs.Dialogues.{Held}
use Rattle.fleet_execute.proofs.holding.hold.Given as goal

abbrev pub invariant-loop-number : goal.invariant-loop-number
invariant-loop-number g l =
    Held l.plan (desk l.fn.run) (g.I.Read.remaining l.fn.input) (g.I.Read.remaining l.input) l.number (desk l.run) (g.W.Write.contents l.fn.output) (g.W.Write.contents l.output) (string_bytes l.told)
