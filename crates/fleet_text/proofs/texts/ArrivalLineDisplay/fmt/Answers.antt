-- The line of an arrival.
use Rattle.std.proofs.Common.{ℕ, List, subst, codes, decimal}
use Rattle.std.specs.Fmt.{HasWritten}
use Rattle.fleet_text.proofs.RunLines.{eleven}
use Rattle.fleet_text.proofs.texts.ArrivalLineDisplay.fmt.Goals as goal

pub returns-clause-writes : goal.returns-clause-writes
returns-clause-writes g c plain ok =
    let a = c.args.self.now.arrival in
    subst (λ (t : List ℕ). HasWritten g.W.Write.write_str_gives c.args.f.now t c.write.new.self)
    (eleven (codes "arrived robot ") (decimal a.robot) (codes " client ") (decimal a.client) (codes " number ") (decimal a.number) (codes " cell ") (decimal c.args.self.now.cell) (codes " stamp ") (decimal a.stamp) (codes "\n"))
    (c.write.ensures.writes plain ok)
