use Rattle.std.proofs.Common.{sym}
use Rattle.fleet_map.proofs.Cuts.{behind_first, behind_last}
use Rattle.fleet_map.proofs.text.first_line.Goals as goal

pub returns-in-None-clause-behind : goal.returns-in-None-clause-behind
returns-in-None-clause-behind c = behind_last c.args.text.now

pub returns-in-Some-clause-behind : goal.returns-in-Some-clause-behind
returns-in-Some-clause-behind c = behind_first c.args.text.now c.in-Some.end (sym c.in-Some.ensures)
