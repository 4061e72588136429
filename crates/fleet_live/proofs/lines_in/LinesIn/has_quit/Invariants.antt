-- No byte is lost so far.
use Rattle.std.proofs.Common.{[]}
use Rattle.fleet_live.specs.Taken.{TakesBytes}
use Rattle.fleet_live.proofs.lines_in.LinesIn.has_quit.Given as goal

abbrev pub invariant-loop : goal.invariant-loop
invariant-loop g l = TakesBytes l.fn.self l.self []
