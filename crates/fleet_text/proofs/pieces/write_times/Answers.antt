-- The text once more.
use Rattle.std.proofs.Common.{rules, ◌+◌, sym, subst}
use Rattle.std.specs.Io.KnownBytes.{Appends}
use Rattle.std.proofs.KnownBytes.{Appends-trans}
use Rattle.fleet_text.specs.Pieces.{repeated}
use Rattle.fleet_text.specs.Transfer.{AppendsPrefix}
use Rattle.fleet_text.proofs.PieceTexts.{all_of, prefix_after, repeated-more, repeated-split}
use Rattle.fleet_text.proofs.pieces.write_times.Goals as goal

pub loop-written-preserved : goal.loop-written-preserved
loop-written-preserved g c =
    let old = g.W.Write.contents c.args.writer.now in
    let before = g.W.Write.contents c.loop-written.writer in
    let new = g.W.Write.contents c.write_whole.new.writer in
    let text = c.args.text.now in
    let once : Appends before new text = search rules in
    subst (λ l. Appends old new l) (sym (repeated-more c.loop-written.written text))
    (Appends-trans old before new (repeated c.loop-written.written text) text c.loop-written.invariant once)

pub returns-then-not-write_whole-clause-prefix : goal.returns-then-not-write_whole-clause-prefix
returns-then-not-write_whole-clause-prefix g c =
    let old = g.W.Write.contents c.args.writer.now in
    let before = g.W.Write.contents c.loop-written.writer in
    let new = g.W.Write.contents c.write_whole.new.writer in
    let text = c.args.text.now in
    subst (λ l. AppendsPrefix old new l) (sym (repeated-split c.args.times c.loop-written.written text c.loop-written-test.true))
    (prefix_after old before new (repeated c.loop-written.written text) text _ c.loop-written.invariant c.write_whole.ensures.prefix)

pub returns-clause-prefix : goal.returns-clause-prefix
returns-clause-prefix g c =
    let old = g.W.Write.contents c.args.writer.now in
    let new = g.W.Write.contents c.loop-written.writer in
    let done : Appends old new (repeated c.args.times c.args.text.now) = search rules in
    all_of old new (repeated c.args.times c.args.text.now) done
