-- What is read of a line is what is heard of it.
use Rattle.fleet_talk.proofs.Lines.{next}
use Rattle.fleet_execute.proofs.line.next_line.Goals as goal

pub returns-in-Ok-clause-next : goal.returns-in-Ok-clause-next
returns-in-Ok-clause-next g c = next _ _ _ _ c.in-Ok.ensures.found c.in-Ok.ensures.line c.in-Ok.ensures.rest
