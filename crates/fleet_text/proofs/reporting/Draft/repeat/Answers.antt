-- The lines of an answer that made no entry, as a text and a piece.
use Rattle.std.proofs.Common.{◌≡◌, ◌∙◌, ◌++◌, ◌/◌, ◌%◌, [], string_bytes, ap}
use Rattle.std.specs.List.{slice_get}
use Rattle.fleet_text.specs.Output.{event_text}
use Rattle.fleet_text.specs.Pieces.{pieces_text, repeated}
use Rattle.fleet_text.proofs.PieceTexts.{in-pieces, plain}
use Rattle.fleet_text.proofs.reporting.Draft.repeat.Goals as goal

pub returns : goal.returns
returns c es rs =
    let event = c.args.answer.event in
    let reply = c.args.answer.reply in
    let n = c.args.answer.times in
    let entries = c.args.entries.now in
    let line = event_text event reply (slice_get entries 0) in
    let text = string_bytes c.args.self.now.text in
    let mid = string_bytes c.write_answer.new.out in
    let lines = string_bytes c.write_answer-2.new.out in
    let is_mid : mid ≡ text ++ repeated (n % 8) line = plain event reply (n % 8) entries c.in_ok-write_answer.field-0.now text mid c.requires c.in_ok-write_answer.ensures in
    let is_lines : lines ≡ repeated 8 line =
    plain event reply 8 entries c.in_ok-write_answer-2.field-0.now (string_bytes c.new-lines.result) lines c.requires c.in_ok-write_answer-2.ensures ∙ ap (λ l. l ++ repeated 8 line) c.new-lines.ensures.bytes in
    in-pieces event reply n 8 entries (pieces_text c.args.self.now.pieces.items) text mid lines (pieces_text c.add_piece.new.self.pieces.items) (string_bytes c.add_piece.new.self.text) es rs
    c.requires is_mid is_lines c.in_ok-add_piece.ensures.text c.in_ok-add_piece.ensures.pieces
