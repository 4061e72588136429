-- One piece more.
use Rattle.std.proofs.Common.{rules, ◌≡◌, ◌+◌, ℕ, List, get_or, sym, ap, subst, string_bytes, take}
use Rattle.std.specs.Io.KnownBytes.{Appends}
use Rattle.std.proofs.KnownBytes.{Appends-trans}
use Rattle.fleet_text.specs.Pieces.{pieces_text, repeated}
use Rattle.fleet_text.specs.Transfer.{AppendsPrefix}
use Rattle.fleet_text.proofs.PieceTexts.{prefix_after, pieces-more, pieces-split}
use Rattle.fleet_text.proofs.pieces.write_pieces.Goals as goal

pub loop-at-preserved : goal.loop-at-preserved
loop-at-preserved g c =
    let old = g.W.Write.contents c.args.writer.now in
    let before = g.W.Write.contents c.loop-at.writer in
    let new = g.W.Write.contents c.write_times.new.writer in
    let pieces = c.args.pieces.now in
    let piece = c.index-pieces-at.result in
    let read : get_or pieces c.loop-at.at piece ≡ piece = search rules in
    let once : Appends before new (repeated piece.times c.as_bytes.result.now) = search rules in
    let text : Appends before new (repeated piece.times (string_bytes piece.text)) = subst (λ l. Appends before new (repeated piece.times l)) c.as_bytes.ensures.value once in
    subst (λ l. Appends old new l) (sym (pieces-more pieces c.loop-at.at piece c.loop-at-test.true read))
    (Appends-trans old before new (pieces_text (take c.loop-at.at pieces)) (repeated piece.times (string_bytes piece.text)) c.loop-at.invariant text)

pub returns-then-not-write_times-clause-prefix : goal.returns-then-not-write_times-clause-prefix
returns-then-not-write_times-clause-prefix g c =
    let old = g.W.Write.contents c.args.writer.now in
    let before = g.W.Write.contents c.loop-at.writer in
    let new = g.W.Write.contents c.write_times.new.writer in
    let pieces = c.args.pieces.now in
    let piece = c.index-pieces-at.result in
    let read : get_or pieces c.loop-at.at piece ≡ piece = search rules in
    let part : AppendsPrefix before new (repeated piece.times (string_bytes piece.text)) = subst (λ l. AppendsPrefix before new (repeated piece.times l)) c.as_bytes.ensures.value c.write_times.ensures.prefix in
    subst (λ l. AppendsPrefix old new l) (sym (pieces-split pieces c.loop-at.at piece c.loop-at-test.true read))
    (prefix_after old before new (pieces_text (take c.loop-at.at pieces)) (repeated piece.times (string_bytes piece.text)) _ c.loop-at.invariant part)
