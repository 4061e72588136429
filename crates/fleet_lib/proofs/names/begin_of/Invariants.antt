use Rattle.fleet_lib.proofs.Folder.{IsBegun}
use Rattle.fleet_lib.proofs.names.begin_of.Given as goal

abbrev pub invariant-loop-at : goal.invariant-loop-at
invariant-loop-at l = IsBegun l.numbers l.last l.begin l.at
