-- A robot, an errand and its client.
use Rattle.std.proofs.Common.{ℕ, List, subst}
use Rattle.std.specs.Fmt.{HasWritten}
use Rattle.fleet_explain.proofs.Written.{arrival_written}
use Rattle.fleet_explain.proofs.trace_text.ArrivalNameDisplay.fmt.Goals as goal

pub returns-clause-writes : goal.returns-clause-writes
returns-clause-writes g c plain ok =
    subst (λ (t : List ℕ). HasWritten g.W.Write.write_str_gives c.args.f.now t c.write.new.self)
    (arrival_written c.args.self.now)
    (c.write.ensures.writes plain ok)
