-- What is read of a line is what is heard of it.
use Rattle.fleet_talk.proofs.Lines.{next}
use Rattle.fleet_talk.proofs.reading.next_line.Goals as goal

pub returns-clause-next : goal.returns-clause-next
returns-clause-next g c = next _ _ _ _ c.in_ok-read_line.ensures.found c.in_ok-read_line.ensures.line c.in_ok-read_line.ensures.rest
