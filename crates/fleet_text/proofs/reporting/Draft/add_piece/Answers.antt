-- A piece after the text.
use Rattle.std.proofs.Common.{◌∙◌, [], ◌∷◌, ◌++◌, string_bytes, ap}
use Rattle.std.proofs.lemmas.List.{append-nil}
use Rattle.fleet_text.specs.Pieces.{pieces_text, repeated}
use Rattle.fleet_text.proofs.PieceTexts.{pieces-append}
use Rattle.fleet_text.proofs.reporting.Draft.add_piece.Goals as goal

pub returns-clause-pieces : goal.returns-clause-pieces
returns-clause-pieces c =
    let more = repeated c.args.times (string_bytes c.args.text) in
    ap pieces_text c.in_ok-push.ensures.items
    ∙ (pieces-append c.cut.new.self.pieces.items _ ∙ (ap (λ l. pieces_text c.cut.new.self.pieces.items ++ l) (append-nil more) ∙ ap (λ l. l ++ more) c.in_ok-cut.ensures.pieces))
