-- The line and the key.
use Rattle.std.proofs.Common.{ℕ, List, ◌++◌, ap, subst, codes, decimal}
use Rattle.std.specs.Fmt.{HasWritten}
use Rattle.fleet_plans.proofs.misspelt.MisspeltDisplay.fmt.Goals as goal

pub returns-clause-writes : goal.returns-clause-writes
returns-clause-writes g c plain ok =
    subst (λ (t : List ℕ). HasWritten g.W.Write.write_str_gives c.args.f.now t c.write.new.self)
    (ap (λ (key : List ℕ). codes "line " ++ (decimal c.args.self.now.line ++ (codes " is ignored, its key is like " ++ key))) c.word-key.ensures) (c.write.ensures.writes plain ok)
