-- The entry of the cell, once nobody has reserved it.
use Rattle.std.proofs.Common.{sym, arith}
use Rattle.fleet_pibt.proofs.board.Board.release.Goals as goal

pub release-requires : goal.release-requires
release-requires g c = omega (arith, c.requires.inside c.in-Some.cell (sym c.in-Some.ensures))

pub returns-clause-holder : goal.returns-clause-holder
returns-clause-holder g c = c.release.ensures.holder
