-- What is told where the output was not taken whole: a file failed.
use Rattle.std.proofs.Common.{ℕ, List, subst}
use Rattle.fleet_text.specs.declared.pieces.Piece.{Piece}
use Rattle.fleet_text.specs.Pieces.{pieces_text}
use Rattle.fleet_text.specs.Transfer.{AppendsPrefix}
use Rattle.errands_lib.specs.Told.{cut_short}
use Rattle.errands_lib.proofs.program.tell.Goals as goal

pub returns-then-not-write_pieces : goal.returns-then-not-write_pieces
returns-then-not-write_pieces g c =
    let front = subst (λ (pieces : List Piece). AppendsPrefix (g.W.Write.contents c.args.output.now) (g.W.Write.contents c.write_pieces.new.writer) (pieces_text pieces)) c.as_slice.ensures.value c.write_pieces.ensures.prefix in
    cut_short front c.fail.ensures
