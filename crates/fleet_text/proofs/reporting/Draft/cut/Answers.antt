-- The text becomes the last piece.
use Rattle.std.proofs.Common.{◌∙◌, [], ◌∷◌, ◌++◌, string_bytes, ap}
use Rattle.std.proofs.lemmas.List.{append-nil}
use Rattle.fleet_text.specs.Pieces.{pieces_text}
use Rattle.fleet_text.proofs.PieceTexts.{pieces-append}
use Rattle.fleet_text.proofs.reporting.Draft.cut.Goals as goal

pub returns-clause-pieces : goal.returns-clause-pieces
returns-clause-pieces c =
    let before = pieces_text c.args.self.now.pieces.items in
    let text = string_bytes c.replace-text.result in
    ap pieces_text c.in_ok-push.ensures.items
    ∙ (pieces-append c.args.self.now.pieces.items _
    ∙ (ap (λ l. before ++ l) (append-nil (text ++ []) ∙ append-nil text) ∙ ap (λ s. before ++ string_bytes s) c.replace-text.ensures.value))
