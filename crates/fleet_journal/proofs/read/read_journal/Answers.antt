use Rattle.std.proofs.Common.{Option, Global, subst}
use Rattle.std.specs.Prelude.{IfSome}
use Rattle.fleet_journal.specs.Journal.{Head, IsHeadLine}
use Rattle.fleet_journal.specs.Lines.{whole_lines}
use Rattle.fleet_journal.proofs.Readings.{faulty_journal}
use Rattle.fleet_journal.proofs.read.read_journal.Goals as goal

pub returns-in-Err-clause-fault : goal.returns-in-Err-clause-fault
returns-in-Err-clause-fault c =
    let opens = subst (λ (o : Option (Head Global)). IfSome o (λ h. IsHeadLine c.in-Some.first.now h)) c.in-Some-2.is c.in_ok-number.ensures.some in
    faulty_journal (whole_lines c.args.bytes.now) c.in-Some.first.now (whole_lines c.in-Some.others.now) (c.in-Some-2.number, c.in-Some-2.opening) c.in-Err.fault
    c.in-Some.ensures.cut opens c.in-Err.ensures.fault
