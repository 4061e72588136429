-- Two robots and what they do.
use Rattle.std.proofs.Common.{ℕ, List, subst}
use Rattle.std.specs.Fmt.{HasWritten}
use Rattle.fleet_explain.proofs.Written.{vertex_written, swap_written}
use Rattle.fleet_explain.proofs.trace_text.StepTextDisplay.fmt.Goals as goal

pub returns-in-Vertex-clause-writes : goal.returns-in-Vertex-clause-writes
returns-in-Vertex-clause-writes g c plain ok =
    subst (λ (t : List ℕ). HasWritten g.W.Write.write_str_gives c.args.f.now t c.write-in-Vertex.new.self)
    (vertex_written c.args.self.now.0 c.in-Vertex.first c.in-Vertex.second c.in-Vertex.is)
    (c.write-in-Vertex.ensures.writes plain ok)

pub returns-in-Swap-clause-writes : goal.returns-in-Swap-clause-writes
returns-in-Swap-clause-writes g c plain ok =
    subst (λ (t : List ℕ). HasWritten g.W.Write.write_str_gives c.args.f.now t c.write-in-Swap.new.self)
    (swap_written c.args.self.now.0 c.in-Swap.first c.in-Swap.second c.in-Swap.is)
    (c.write-in-Swap.ensures.writes plain ok)
