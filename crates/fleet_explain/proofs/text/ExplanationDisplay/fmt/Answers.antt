-- A letter of a map.
use Rattle.std.proofs.Common.{ℕ, List, subst}
use Rattle.std.specs.Fmt.{HasWritten}
use Rattle.fleet_explain.proofs.Written.{letter_written}
use Rattle.fleet_explain.proofs.text.ExplanationDisplay.fmt.Goals as goal

pub returns-in-Letter-clause-writes : goal.returns-in-Letter-clause-writes
returns-in-Letter-clause-writes g c plain ok =
    subst (λ (t : List ℕ). HasWritten g.W.Write.write_str_gives c.args.f.now t c.write-in-Letter.new.self)
    (letter_written c.args.self.now c.in-Letter.row c.in-Letter.column c.in-Letter.letter c.in-Letter.is)
    (c.write-in-Letter.ensures.writes plain ok)
