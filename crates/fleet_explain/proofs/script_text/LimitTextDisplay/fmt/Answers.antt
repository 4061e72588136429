-- A limit, its value and its range.
use Rattle.std.proofs.Common.{ℕ, List, subst}
use Rattle.std.specs.Fmt.{HasWritten}
use Rattle.fleet_explain.proofs.Written.{limit_written}
use Rattle.fleet_explain.proofs.script_text.LimitTextDisplay.fmt.Goals as goal

pub returns-clause-writes : goal.returns-clause-writes
returns-clause-writes g c plain ok =
    subst (λ (t : List ℕ). HasWritten g.W.Write.write_str_gives c.args.f.now t c.write.new.self)
    (limit_written c.args.self.now.0 c.name-name.result.now c.least-least.result c.most-most.result c.name-name.ensures c.least-least.ensures c.most-most.ensures)
    (c.write.ensures.writes plain ok)
