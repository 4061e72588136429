use Rattle.std.proofs.Common.{take}
use Rattle.std.specs.Io.KnownBytes.{Appends}
use Rattle.fleet_text.specs.Pieces.{pieces_text}
use Rattle.fleet_text.proofs.pieces.write_pieces.Given as goal

abbrev pub invariant-loop-at : goal.invariant-loop-at
invariant-loop-at g l = Appends (g.W.Write.contents l.fn.writer) (g.W.Write.contents l.writer) (pieces_text (take l.at l.pieces))
