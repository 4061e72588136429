-- A header line, by its first word and the others.
use Rattle.std.proofs.Common.{[]}
use Rattle.fleet_talk.proofs.heading.add_line.Goals as goal

pub returns-in-Some : goal.returns-in-Some
returns-in-Some c = rw c.in-Some.ensures.cut (c.add_header.ensures [] [])
